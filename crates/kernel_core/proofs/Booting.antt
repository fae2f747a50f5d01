-- A boot goes on, turn by turn.
use Rattle.std.proofs.Common.{◌≡◌, ℕ, suc, ◌+◌, ◌-◌, ◌<◌, ◌≤◌, ◌⊎◌, ⊎_elim, inl, inr, false, cond, eqb, List, [], ◌∷◌, ◌++◌, length, get_or, Option, Some, None, refl, sym, ap, ap₂, ◌∙◌, subst, arith}
use Rattle.std.proofs.lemmas.List.{append-nil}
use Rattle.rv_core.specs.State.{MachineState}
use Rattle.nv_base.specs.declared.lines.Line.{Line}
use Rattle.nv_base.specs.declared.lines.Line.TheVariants as line
use Rattle.kernel_model.specs.Turns.{Nothing}
use Rattle.kernel_model.specs.Turns as turns
use Rattle.kernel_model.specs.Events.{Boot}
use Rattle.fram_dev.specs.Device.{made_in}
use Rattle.fram_dev.proofs.MadeIn.{length-made_in}
use Rattle.set_model.specs.Sets.{TaskSet}
use Rattle.set_model.specs.Views.{line_of}
use Rattle.device_model.specs.Words.{Change, Words, made}
use Rattle.device_model.specs.Layouts.{Kind, boot_turns_of}
use Rattle.device_model.specs.IndexWords.{Index, IsIndex}
use Rattle.device_model.specs.Journals.{boot_writes, booted}
use Rattle.device_model.specs.Decoding as stored
use Rattle.device_model.specs.Decoding.{decode}
use Rattle.device_model.specs.Devices.{held_on, index_on, layout_on, need_on}
use Rattle.device_model.proofs.ForCallers.{image_by_place, index-read, laid_out_set}
use Rattle.slot_model.proofs.ForCallers.{boot_idle}
use Rattle.shadow_index.specs.States.{HasRoom, index_of}
use Rattle.shadow_index.specs.Tells.{IsLayoutOf, IsShift, device_of}
use Rattle.shadow_index.specs.declared.state.State as own_state
use Rattle.table_machine.specs.Tables.{Seat, Vacant, Saves, Tables, world_in}
use Rattle.table_machine.specs.Events.{Answer, boot_answer, no_index, reopened, step_answer}
use Rattle.table_machine.specs.Represents.{seat_of, tables_on}
use Rattle.table_machine.proofs.EachImage.{holding_decodes, holds, tables_tell}
use Rattle.table_machine.proofs.SeatLists as lists
use Rattle.recovery.specs.Images.{IsOwn, device_at, words_of}
use Rattle.recovery.proofs.BootCounts.{words_more}
use Rattle.recovery.proofs.KindLaws.{need_some}
use Rattle.recovery.proofs.ShiftLaws.{held_device}
use Rattle.recovery.specs.Booting.{IsBooted, IsBooting, IsCounted, turns_of}
use Rattle.recovery.specs.declared.boot.Boot as booting
use Rattle.core_seats.specs.declared.seat.Seat as own
use Rattle.core_seats.specs.declared.seat.Saving.{Saving}
use Rattle.core_seats.specs.Holding.{AreSeats, StandsFor, StandsForBy}
use Rattle.committed_state.specs.declared.committed.Committed.{Committed}
use Rattle.committed_state.specs.Committed.{HasRooms, IsCommitted, chains_in}
use Rattle.kernel_core.specs.Commits.{setting_on}
use Rattle.kernel_core.specs.Keeping.{IsInBoot, IsLawful, IsPowered, Keeps}
use Rattle.kernel_core.specs.Steps.{HasImage, HasWritten, MayHaveWritten, Steps, step_of}
use Rattle.kernel_core.specs.Turns.{IsAnswered}
use Rattle.kernel_core.specs.declared.kernel.Kernel.{Kernel}
use Rattle.kernel_core.specs.declared.kernel.Power.TheVariants as power
use Rattle.kernel_core.proofs.Failing.{configuration, represented}

-- ---- in a boot

pub in_boot : (k : Kernel) (words : Words) (t : Tables MachineState) (b : booting.Boot) → Keeps k words t → k.power ≡ power.Boot b → IsInBoot k words t b
in_boot k words t b h off = subst (IsPowered k words t) off h.powered

-- no core holds anything
pub all_vacant : (k : Kernel) (words : Words) (t : Tables MachineState) (left : ℕ) → IsLawful k words t → t.power ≡ Boot left → (j : ℕ) → get_or t.seats j Vacant ≡ Vacant
all_vacant k words t left l off j =
    let x = setting_on k.set words in
    let g = l.represented.0 in
    let a = l.represented.1 in
    let s = l.state in
    let still = sym (tables_tell x l.base l.last t words s l.represented).0 ∙ off in
    let f = seat_of {M = MachineState} l.base s.history g.kept no_index in
    ap (λ (u : Tables MachineState). get_or u.seats j Vacant) (a.tables ∙ ap (tables_on x l.base l.last g s) still)
    ∙ lists.seat_at f (λ i. refl) s.cores j
    ∙ ap (f j) (boot_idle (world_in x l.base) s left a.lawful still j)

-- then the state after a commit is of no account to them
stands_any : (s : own.Seat) (after other : Index) (t : Seat MachineState) → t ≡ Vacant → StandsFor s after t → StandsFor s other t
stands_any s after other t vacant h = at s.saving h
  where
    at : (v : Option Saving) → StandsForBy s after v t → StandsForBy s other v t
    at None g = g
    at (Some v) g = absurd (let e : Vacant ≡ Saves g.finish after g.left = sym vacant ∙ g.is in cc e)

pub seats_any : (seats : List own.Seat) (after other : Index) (held : List (Seat MachineState)) → ((j : ℕ) → get_or held j Vacant ≡ Vacant) → AreSeats seats after held → AreSeats seats other held
seats_any [] after other [] vacant h = tt
seats_any [] after other (t ∷ held) vacant h = absurd h
seats_any (s ∷ seats) after other [] vacant h = absurd h
seats_any (s ∷ seats) after other (t ∷ held) vacant h = (stands_any s after other t (vacant 0) h.0, seats_any seats after other held (λ j. vacant (suc j)) h.1)

-- ---- a step of another core

abbrev pub nothing_of : Tables MachineState → Answer MachineState
nothing_of t = record { tables = t; writes = []; line = Nothing }

other_answer : (k : Kernel) (words : Words) (t : Tables MachineState) (n : ℕ) (b : booting.Boot) → IsInBoot k words t b → eqb n 0 ≡ false → step_of k words t n ≡ nothing_of t
other_answer k words t n b i other =
    let x = setting_on k.set words in
    ap (step_answer x words t n) i.power ∙ ap (λ c. cond c (boot_answer x words t i.left) (nothing_of t)) other

pub other_steps : (k : Kernel) (words : Words) (n : ℕ) (b : booting.Boot) → k.power ≡ power.Boot b → eqb n 0 ≡ false → Steps k n words k words line.Nothing
unfolding Steps
other_steps k words n b off other = λ t h l.
    subst (λ (a : Answer MachineState). IsAnswered k words a line.Nothing) (sym (other_answer k words t n b (in_boot k words t b h off) other)) (record { keeps = h; tells = refl })

pub other_writes : (k : Kernel) (words : Words) (n : ℕ) (b : booting.Boot) (log : List Change) → k.power ≡ power.Boot b → eqb n 0 ≡ false → HasWritten k n words log log
unfolding HasWritten
other_writes k words n b log off other = λ t h l.
    sym (append-nil log) ∙ ap (λ (a : Answer MachineState). log ++ a.writes) (sym (other_answer k words t n b (in_boot k words t b h off) other))

pub other_image : (k : Kernel) (words : Words) (n : ℕ) (b : booting.Boot) → k.power ≡ power.Boot b → eqb n 0 ≡ false → HasImage k n words words
unfolding HasImage
other_image k words n b off other = λ t h l.
    ap (λ (a : Answer MachineState). made a.writes words) (sym (other_answer k words t n b (in_boot k words t b h off) other))

-- ---- a turn that reads

-- the answer, by how many turns are left
boot_answered : (k : Kernel) (words : Words) (t : Tables MachineState) (n left : ℕ) → n ≡ 0 → t.power ≡ Boot left → step_of k words t n ≡ boot_answer (setting_on k.set words) words t left
boot_answered k words t n left first off =
    let x = setting_on k.set words in
    ap (step_answer x words t n) off ∙ ap (λ m. cond (eqb m 0) (boot_answer x words t left) (nothing_of t)) first

-- one turn fewer is left
abbrev pub read_of : Tables MachineState → (left : ℕ) → Answer MachineState
read_of t left = record { tables = record t { power = Boot (suc left) }; writes = []; line = Nothing }

more_answer : (k : Kernel) (words : Words) (t : Tables MachineState) (n : ℕ) (b : booting.Boot) (i : IsInBoot k words t b) → n ≡ 0 → 1 < i.left → step_of k words t n ≡ read_of t (i.left - 2)
more_answer k words t n b i first some =
    let two : i.left ≡ suc (suc (i.left - 2)) = omega (arith, some) in
    boot_answered k words t n (suc (suc (i.left - 2))) first (i.power ∙ ap Boot two)

-- there is room for what was read
pub rooms_taken : (set : TaskSet) (c : Committed) (into : own_state.State) → HasRooms set c → HasRoom set into → HasRooms set (record c { after = into })
rooms_taken set c into h room = record { limits = h.limits; state = h.state; after = room; slots = h.slots; records = h.records }

-- the kernel after it
abbrev pub read_on : Kernel → booting.Boot → own_state.State → Kernel
read_on k b into = record k { power = power.Boot b; committed = record k.committed { after = into } }

pub more_steps : (k : Kernel) (words later : Words) (n : ℕ) (b next : booting.Boot) (into : own_state.State) → n ≡ 0 → k.power ≡ power.Boot b → later ≡ words → IsBooting k.set words next into → turns_of next ≡ turns_of b + 1 → turns_of next < boot_turns_of (layout_on (device_at k.set words)) → HasRoom k.set into
    → Steps k n words (read_on k next into) later line.Nothing
unfolding Steps
more_steps k words later n b next into first off same going count early room = λ t h l.
    let i = in_boot k words t b h off in
    let some : 1 < i.left = let e = i.counted in omega (arith, e, count, early) in
    let kept : Keeps (read_on k next into) words (record t { power = Boot (suc (i.left - 2)) }) = record {
      limits = h.limits;
      cores = h.cores;
      few = h.few;
      attempts = h.attempts;
      own = h.own;
      layout = h.layout;
      rooms = rooms_taken k.set k.committed into h.rooms room;
      writer = h.writer;
      seats = seats_any k.seats.items (index_of k.committed.after) (index_of into) t.seats (all_vacant k words t i.left l i.power) h.seats;
      owed = h.owed;
      entries = h.entries;
      capacity = h.capacity;
      powered = record {
        left = suc (i.left - 2);
        some = omega arith;
        counted = let e = i.counted in omega (arith, e, count, some);
        power = refl;
        boots = i.boots;
        index = i.index;
        root = i.root;
        chains = i.chains;
        booting = going;
      };
    } in
    subst (λ (a : Answer MachineState). IsAnswered (read_on k next into) later a line.Nothing) (sym (more_answer k words t n b i first some))
    (subst (λ w. IsAnswered (read_on k next into) w (read_of t (i.left - 2)) line.Nothing) (sym same) (record { keeps = kept; tells = refl }))

pub more_writes : (k : Kernel) (words : Words) (n : ℕ) (b next : booting.Boot) (log grown : List Change) → n ≡ 0 → k.power ≡ power.Boot b → grown ≡ log → turns_of next ≡ turns_of b + 1 → turns_of next < boot_turns_of (layout_on (device_at k.set words)) → HasWritten k n words log grown
unfolding HasWritten
more_writes k words n b next log grown first off same count early = λ t h l.
    let i = in_boot k words t b h off in
    let some : 1 < i.left = let e = i.counted in omega (arith, e, count, early) in
    same ∙ sym (append-nil log) ∙ ap (λ (a : Answer MachineState). log ++ a.writes) (sym (more_answer k words t n b i first some))

pub more_image : (k : Kernel) (words later : Words) (n : ℕ) (b next : booting.Boot) → n ≡ 0 → k.power ≡ power.Boot b → later ≡ words → turns_of next ≡ turns_of b + 1 → turns_of next < boot_turns_of (layout_on (device_at k.set words)) → HasImage k n words later
unfolding HasImage
more_image k words later n b next first off same count early = λ t h l.
    let i = in_boot k words t b h off in
    let some : 1 < i.left = let e = i.counted in omega (arith, e, count, early) in
    same ∙ ap (λ (a : Answer MachineState). made a.writes words) (sym (more_answer k words t n b i first some))

-- ---- the last turn

last_answer : (k : Kernel) (words : Words) (t : Tables MachineState) (n : ℕ) (b : booting.Boot) → IsInBoot k words t b → n ≡ 0 → turns_of b + 1 ≡ boot_turns_of (layout_on (device_at k.set words)) → step_of k words t n ≡ boot_answer (setting_on k.set words) words t 1
last_answer k words t n b i first last =
    let one : i.left ≡ 1 = let e = i.counted in omega (arith, e, last) in
    boot_answered k words t n 1 first (i.power ∙ ap Boot one)

pub last_writes : (k : Kernel) (words : Words) (n : ℕ) (b : booting.Boot) (log grown : List Change) → n ≡ 0 → k.power ≡ power.Boot b → turns_of b + 1 ≡ boot_turns_of (layout_on (device_at k.set words)) → grown ≡ log ++ boot_writes (held_on (device_at k.set words) words) → HasWritten k n words log grown
unfolding HasWritten
last_writes k words n b log grown first off last made = λ t h l.
    let i = in_boot k words t b h off in
    made ∙ ap (λ (boots : ℕ). log ++ (2, boots + 1) ∷ []) (sym i.boots) ∙ ap (λ (a : Answer MachineState). log ++ a.writes) (sym (last_answer k words t n b i first last))

pub last_image : (k : Kernel) (words later : Words) (n : ℕ) (b : booting.Boot) → n ≡ 0 → k.power ≡ power.Boot b → turns_of b + 1 ≡ boot_turns_of (layout_on (device_at k.set words)) → later ≡ made (boot_writes (held_on (device_at k.set words) words)) words → HasImage k n words later
unfolding HasImage
last_image k words later n b first off last image = λ t h l.
    let i = in_boot k words t b h off in
    image ∙ ap (λ (boots : ℕ). made ((2, boots + 1) ∷ []) words) (sym i.boots) ∙ ap (λ (a : Answer MachineState). made a.writes words) (sym (last_answer k words t n b i first last))

-- a call was lost in a turn
pub lost_writes : (k : Kernel) (words later : Words) (n : ℕ) (b : booting.Boot) (log grown : List Change) → n ≡ 0 → k.power ≡ power.Boot b
    → (grown ≡ log ++ boot_writes (held_on (device_at k.set words) words) → later ≡ made (boot_writes (held_on (device_at k.set words) words)) words)
    → (grown ≡ log) ⊎ IsCounted k.set words b log grown → MayHaveWritten k n words later log grown
unfolding MayHaveWritten HasWritten HasImage
lost_writes k words later n b log grown first off image either = λ t h l.
    ⊎_elim inl
    (λ counted. inr (record { logged = last_writes k words n b log grown first off counted.last counted.written t h l; words_are = last_image k words later n b first off counted.last (image counted.written) t h l }))
    either

-- the words tell the index of a state
index_read : (k : Kernel) (words : Words) (t : Tables MachineState) → Keeps k words t → IsLawful k words t → IsIndex k.set (index_on (device_at k.set words) words)
index_read k words t h l =
    let x = setting_on k.set words in
    let g = holds (configuration k words t l) (represented k words t h l) in
    subst (IsIndex k.set) (sym (index-read k.set x.layout g.held words (laid_out_set (device_at k.set words).kind k.set h.limits) g.keeps)) g.keeps.held.index

-- and so does what was read
pub index_taken : (k : Kernel) (words later : Words) (t : Tables MachineState) (into : own_state.State) → Keeps k words t → IsLawful k words t → IsBooted k.set words later into → IsIndex k.set (index_of into)
index_taken k words later t into h l read = subst (IsIndex k.set) (sym read.state.index) (index_read k words t h l)

-- the words once the boot is counted
pub counted_image : (set : TaskSet) (boots : ℕ) (log grown : List Change) (start same : List ℕ) → need_on (device_at set (words_of log start)) ≤ length start → grown ≡ log ++ (2, boots) ∷ [] → same ≡ start → words_of grown same ≡ made ((2, boots) ∷ []) (words_of log start)
counted_image set boots log grown start same room e f =
    let d = device_at set (words_of log start) in
    let long : 2 < length start = let n = need_some d.kind set in omega (arith, room, n) in
    let low : 2 < length (made_in log start) = omega (arith, long, length-made_in log start) in
    words_more log ((2, boots) ∷ []) grown start same e f ∙ image_by_place ((2, boots) ∷ []) (made_in log start) (low, tt)

-- word 0 stays
still_own : (set : TaskSet) (words later : Words) (boots : ℕ) → later ≡ made ((2, boots) ∷ []) words → IsOwn set words → IsOwn set later
still_own set words later boots image own = subst (IsOwn set) (sym image) own

pub last_steps : (k new : Kernel) (words later : Words) (n : ℕ) (b : booting.Boot) (into : own_state.State) (tells : Line)
    → n ≡ 0 → k.power ≡ power.Boot b → turns_of b + 1 ≡ boot_turns_of (layout_on (device_at k.set words)) → IsBooted k.set words later into → later ≡ made (boot_writes (held_on (device_at k.set words) words)) words
    → new ≡ record k { power = power.On; owed = None; committed = new.committed }
    → IsCommitted k.set new.committed → chains_in new.committed ≡ reopened k.set (index_of into) → new.committed.state ≡ into → tells ≡ line.Booted k.owed into.boots
    → Steps k n words new later tells
unfolding Steps
last_steps k new words later n b into tells first off last read image is committed chains state told = λ t h l.
    let i = in_boot k words t b h off in
    let d = device_at k.set words in
    let a = boot_answer (setting_on k.set words) words t 1 in
    let same : device_at k.set later ≡ d = held_device d (booted (held_on d words)) later read.counted in
    let vacant = all_vacant k words t i.left l i.power in
    let index : index_of new.committed.state ≡ index_on d words = ap index_of state ∙ read.state.index in
    let boots : t.boots + 1 ≡ into.boots = ap (λ (m : ℕ). m + 1) i.boots ∙ sym read.state.boots in
    let kept : Keeps (record k { power = power.On; owed = None; committed = new.committed }) later a.tables = record {
      limits = h.limits;
      cores = h.cores;
      few = h.few;
      attempts = h.attempts;
      own = still_own k.set words later (words 2 + 1) image h.own;
      layout = subst (λ e. IsLayoutOf e k.layout) (sym same) h.layout;
      rooms = committed.rooms;
      writer = h.writer;
      seats = seats_any k.seats.items (index_of k.committed.after) (index_of new.committed.after) t.seats vacant h.seats;
      owed = refl;
      entries = h.entries;
      capacity = h.capacity;
      powered = record {
        power = refl;
        boots = boots ∙ sym (ap (λ (s : own_state.State). s.boots) state);
        index = sym index;
        root = sym (ap (λ (s : own_state.State). s.root) state ∙ read.state.root);
        chains = ap (reopened k.set) (sym read.state.index) ∙ sym chains;
        committed = committed;
        shift = subst (λ (s : own_state.State). IsShift k.set s.shift) (sym state) read.moved;
        device = ap (λ (s : own_state.State). device_of k.set s.shift) state ∙ read.device ∙ sym same;
        commits = λ m s j after left number e. absurd (let f : Vacant ≡ Saves j after left = sym (vacant m) ∙ e in cc f);
      };
    } in
    subst (λ (a : Answer MachineState). IsAnswered new later a tells) (sym (last_answer k words t n b i first last))
    (subst (λ (x : Kernel). IsAnswered x later a tells) (sym is) (record {
      keeps = kept;
      tells = ap line_of told ∙ ap₂ turns.Booted (sym h.owed) (sym boots);
    }))

-- ---- a boot is not refused

-- the words of a lawful kernel decode
pub decodes : (k : Kernel) (words : Words) (t : Tables MachineState) → Keeps k words t → IsLawful k words t → (g : stored.Held) × (decode k.set words ≡ stored.Holds (device_at k.set words).kind g)
decodes k words t h l =
    let c = configuration k words t l in
    let r = represented k words t h l in
    let g = holding_decodes k.set.format (device_at k.set words).kind c words l.state r.setting refl l.kind (holds c r) in
    (g.0, g.1)

pub never_blank : (k : Kernel) (words : Words) (t : Tables MachineState) → Keeps k words t → IsLawful k words t → decode k.set words ≡ stored.Blank → ⊥
never_blank k words t h l e = let g = decodes k words t h l in apart (device_at k.set words).kind g.0 (sym g.1 ∙ e)
  where
    apart : (kind : Kind) (g : stored.Held) → stored.Holds kind g ≡ stored.Blank → ⊥
    apart kind g e = cc e

pub never_damaged : (k : Kernel) (words : Words) (t : Tables MachineState) (place : ℕ) → Keeps k words t → IsLawful k words t → decode k.set words ≡ stored.Damaged place → ⊥
never_damaged k words t place h l e = let g = decodes k words t h l in apart (device_at k.set words).kind g.0 (sym g.1 ∙ e)
  where
    apart : (kind : Kind) (g : stored.Held) → stored.Holds kind g ≡ stored.Damaged place → ⊥
    apart kind g e = cc e
