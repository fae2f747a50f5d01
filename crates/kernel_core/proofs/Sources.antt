-- Where a try copies from, and what a word makes of it.
use Rattle.std.proofs.Common.{◌≡◌, ℕ, ◌+◌, ◌<◌, ◌++◌, Bool, true, false, cond, nat_lt, List, [], ◌∷◌, get_or, length, take, Option, refl, sym, ap, ap₂, ◌∙◌, subst}
use Rattle.rv_core.specs.State.{MachineState}
use Rattle.nv_base.specs.declared.ids.ObjId.{ObjId}
use Rattle.nv_base.specs.declared.lines.Line.TheVariants as line
use Rattle.kernel_model.specs.Items.{Entry, FinishRecord}
use Rattle.kernel_model.specs.Replay.{DeviceState}
use Rattle.kernel_model.specs.Versions.{Read, read_words}
use Rattle.kernel_model.specs.Cores.{Attempt, Core, Idle, Running, Copying, Ready, Committing, all_but}
use Rattle.kernel_model.specs.Events.{On, State}
use Rattle.slot_model.specs.Kept.{Kept}
use Rattle.slot_model.proofs.ForCallers.{copied_stands}
use Rattle.set_model.specs.Sets.{object_at}
use Rattle.device_model.specs.Words.{Words}
use Rattle.device_model.specs.IndexWords.{Index}
use Rattle.device_model.specs.Layouts.{slot_place}
use Rattle.device_model.specs.Devices.{layout_on, need_on}
use Rattle.device_model.proofs.ForCallers.{slot_place-high}
use Rattle.interval.specs.Ranges.{range_of}
use Rattle.shadow_index.specs.States as states
use Rattle.recovery.specs.Images.{device_at}
use Rattle.table_machine.specs.Tables.{Copy, Vacant, Copies, Runs, Try, Setting, Tables, sizes_in}
use Rattle.table_machine.specs.Seats.{SeatTurn, copy_word, given_words, seat_turn, still}
use Rattle.table_machine.specs.Represents.{Agrees, Ghost, begun_copies, index_of, seat_of, slots_in, try_of}
use Rattle.table_machine.proofs.SeatLists.{seat_at}
use Rattle.vol_copy.specs.Tries.{IsFor, IsForAt, IsSeatAt}
use Rattle.vol_copy.specs.Stages.{IsCopying}
use Rattle.vol_copy.specs.Doings.{doing_in}
use Rattle.vol_copy.specs.declared.doing.Doing.TheVariants as doing
use Rattle.vol_copy.specs.declared.attempt.Stage.{Stage}
use Rattle.vol_copy.specs.declared.attempt.Stage.TheVariants as stage
use Rattle.vol_copy.specs.declared.want.Want.{Want}
use Rattle.core_seats.specs.declared.seat.Seat as own
use Rattle.core_seats.specs.Holding.{IsFromSlot, StandsFor}
use Rattle.core_seats.specs.Steps.{CopiesOn}
use Rattle.kernel_core.specs.Commits.{setting_on}
use Rattle.kernel_core.specs.Keeping.{IsLawful, Keeps}
use Rattle.kernel_core.specs.Turns.{HasTurned, IsAtStage, TurnsOn, held_at, turn_at}
use Rattle.kernel_core.specs.declared.kernel.Kernel.{Kernel}
use Rattle.kernel_core.proofs.Turned as turned
use Rattle.kernel_core.proofs.Turned.{SavesNone, seated}
use Rattle.kernel_core.proofs.AtStage.{kept_at, on, same_item, stands_at}
use Rattle.kernel_core.proofs.Versions.{tables_now}

-- a seat that copies is that of a core that copies
copying_core : {M : Type 0} → (base : DeviceState) (history : List FinishRecord) (kept : Kept) (index : Index) (n : ℕ) (c : Core M) (t : Try M) (slot : ℕ) → seat_of base history kept index n c ≡ Copies t slot
    → (a : Attempt M) × (copied : ℕ) × (c ≡ Copying a copied) × (begun_copies base history copied a.reads ≡ t.copies) × (kept.pins n ≡ slot)
copying_core base history kept index n Idle t slot e = absurd (cc e)
copying_core base history kept index n (Running a) t slot e = absurd (cc e)
copying_core base history kept index n (Copying a copied) t slot e =
    let same : try_of base history a (begun_copies base history copied a.reads) ≡ t = cc e in
    (a, copied, refl, ap (λ (u : Try _). u.copies) same, cc e)
copying_core base history kept index n (Ready a outcome) t slot e = absurd (cc e)
copying_core base history kept index n (Committing i left) t slot e = absurd (cc e)

-- its newest copy is of the newest read
newest_read : (base : DeviceState) (history : List FinishRecord) (copied : ℕ) (reads : List Read) (c : Copy) (older : List Copy) → begun_copies base history copied reads ≡ c ∷ older → (r : Read) × (rest : List Read) × (reads ≡ r ∷ rest) × (r.object ≡ c.object)
newest_read base history copied [] c older e = absurd (cc e)
newest_read base history copied (r ∷ rest) c older e =
    let same : record { object = r.object; words = take copied (read_words base history r) } ≡ c = cc e in
    (r, rest, refl, ap (λ (d : Copy). d.object) same)

-- the slot that it copies from is one of the object's
pub slot_inside : (x : Setting MachineState) (base : DeviceState) (last : Option Entry) (g : Ghost) (t : Tables MachineState) (words : Words) (s : State MachineState) (n : ℕ) (u : Try MachineState) (slot : ℕ) (c : Copy) (older : List Copy)
    → Agrees x base last g t words s → t.power ≡ On → get_or t.seats n Vacant ≡ Copies u slot → u.copies ≡ c ∷ older → c.object < length x.set.objects → slot < (object_at x.set c.object).slots
slot_inside x base last g t words s n u slot c older a on copies newest inside =
    let now = tables_now x base last g t words s a on in
    let index = index_of x base last g.kept s.history in
    let seat : get_or t.seats n Vacant ≡ seat_of base s.history g.kept index n (get_or s.cores n Idle) = ap (λ (v : Tables MachineState). get_or v.seats n Vacant) now ∙ seat_at (seat_of base s.history g.kept index) (λ k. refl) s.cores n in
    let core = copying_core base s.history g.kept index n (get_or s.cores n Idle) u slot (sym seat ∙ copies) in
    let read = newest_read base s.history core.1 core.0.reads c older (core.3 ∙ newest) in
    let stands = copied_stands (sizes_in x) base g.floor s.history s.cores g.kept (slots_in x words) a.lawful.sound.history.numbered a.slots.stands n core.0 core.1 read.0 read.1 core.2 read.2 (subst (λ o. o < length x.set.objects) (sym read.3) inside) in
    let low = subst (λ o. g.kept.pins n < (object_at x.set o).slots) read.3 stands.0 in
    subst (λ k. k < (object_at x.set c.object).slots) core.4 low

-- what is known of a core that copies
pub record IsSourced (k : Kernel) (s : own.Seat) (o copied : ℕ) : Type 0 where
  pub object : o < length k.set.objects
  pub slot : s.slot < (object_at k.set o).slots
  pub word : copied < (object_at k.set o).size

pub sourced : (k : Kernel) (words : Words) (t : Tables MachineState) (n : ℕ) (o : ObjId) (w : Want) (copied : ℕ) → Keeps k words t → IsLawful k words t → (g : IsAtStage k n IsCopying) → g.seat.attempt.stage ≡ stage.Copying o w copied → IsSourced k g.seat o.0 copied
sourced k words t n o w copied h l g e =
    let kept = subst (IsForAt k.set g.seat.attempt) e (kept_at k words t n IsCopying h g).stage in
    let held = stands_at k words t n IsCopying h g in
    let found = subst (λ s. IsSeatAt g.seat.attempt (range_of g.seat.reads) s (held_at t n)) e held.0 in
    let from : found.1 ≡ g.seat.slot = subst (IsFromSlot g.seat.slot) found.4 held.1 in
    let low = slot_inside (setting_on k.set words) l.base l.last l.represented.0 t words l.state n found.0 found.1 _ found.2.older l.represented.1 (on k words t h g.power).power found.4 found.2.newest kept.0.inside in
    record { object = kept.0.inside; slot = subst (λ j. j < (object_at k.set o.0).slots) from low; word = kept.1 }

-- a word leaves no finish that commits
copy_saves_none : (x : Setting MachineState) (words : Words) (u : Try MachineState) (slot : ℕ) (copies : List Copy) → SavesNone (copy_word x words u slot copies).seat
copy_saves_none x words u slot [] = λ i after left e. cc e
copy_saves_none x words u slot (c ∷ copies) = at (nat_lt (length c.words + 1) (object_at x.set c.object).size)
  where
    copied : List ℕ
    copied = c.words ++ words (slot_place x.layout x.set c.object slot + length c.words) ∷ []

    b : Try MachineState
    b = record u { copies = record { object = c.object; words = copied } ∷ copies }

    at : (more : Bool) → SavesNone (cond more (still (Copies b slot)) (still (Runs (given_words x.steps b u.state c.object copied)))).seat
    at true = λ i after left e. cc e
    at false = λ i after left e. cc e

-- the turn of a core that copies
pub copy_turns : (k : Kernel) (words : Words) (n : ℕ) (o : ObjId) (w : Want) (copied word : ℕ) (s : own.Seat) → (g : IsAtStage k n IsCopying) → g.seat.attempt.stage ≡ stage.Copying o w copied → IsFor k.set s.attempt → CopiesOn g.seat word s → word ≡ words (slot_place (layout_on (device_at k.set words)) k.set o.0 g.seat.slot + copied)
    → TurnsOn words k n (seated k n s) line.Nothing
unfolding TurnsOn CopiesOn
copy_turns k words n o w copied word s g e kept copies is = λ t h lawful.
    let after = states.index_of k.committed.after in
    let x = setting_on k.set words in
    let held = stands_at k words t n IsCopying h g in
    let found = subst (λ s. IsSeatAt g.seat.attempt (range_of g.seat.reads) s (held_at t n)) e held.0 in
    let from : found.1 ≡ g.seat.slot = subst (IsFromSlot g.seat.slot) found.4 held.1 in
    let at : held_at t n ≡ Copies found.0 g.seat.slot = found.4 ∙ ap (λ (slot : ℕ). Copies found.0 slot) from in
    let stands = subst (StandsFor g.seat after) at (turned.seat_at k.seats.items after t.seats n g.seat h.seats g.inside g.seat_is) in
    let made = copies k.set (kept_at k words t n IsCopying h g) after o w copied e (layout_on (device_at k.set words)) words found.0 stands is in
    let turn : turn_at k words t n ≡ copy_word x words found.0 g.seat.slot found.0.copies = ap (seat_turn x t words (all_but n t.seats) n) at in
    subst (λ (u : SeatTurn MachineState). HasTurned (seated k n s) words t n u line.Nothing) (sym turn)
    (record { keeps = turned.turned k words t n s _ h g.power kept made.0 (copy_saves_none x words found.0 g.seat.slot found.0.copies); tells = sym made.1 })

-- what it does tells its stage
copies_stage : (s : Stage) (o : ObjId) (copied : ℕ) → doing.Copies o copied ≡ doing_in s → (w : Want) × (s ≡ stage.Copying o w copied)
copies_stage stage.Blank o copied e = absurd (cc e)
copies_stage stage.Running o copied e = absurd (cc e)
copies_stage (stage.Fetching object want) o copied e = absurd (cc e)
copies_stage (stage.Copying object want n) o copied e =
    let object_is : o ≡ object = cc e in
    let copied_is : copied ≡ n = cc e in
    (want, ap₂ (λ (x : ObjId) (m : ℕ). stage.Copying x want m) (sym object_is) (sym copied_is))
copies_stage (stage.Ready outcome) o copied e = absurd (cc e)

-- all that is known of the core that copies so many words of an object
pub record IsSource (k : Kernel) (n : ℕ) (g : IsAtStage k n IsCopying) (x : own.Seat) (o : ObjId) (copied : ℕ) : Type 0 where
  pub want : Want
  pub stage_is : g.seat.attempt.stage ≡ stage.Copying o want copied
  pub facts : IsSourced k g.seat o.0 copied
  pub same : x ≡ g.seat

pub source_of : (k : Kernel) (words : Words) (t : Tables MachineState) (n m : ℕ) (x : own.Seat) (o : ObjId) (copied : ℕ) → Keeps k words t → IsLawful k words t → (g : IsAtStage k n IsCopying) → x ≡ get_or k.seats.items m x → m ≡ n → doing.Copies o copied ≡ doing_in x.attempt.stage → IsSource k n g x o copied
source_of k words t n m x o copied h l g at number e =
    let same = same_item k.seats.items m n x g.seat at number g.inside g.seat_is in
    let found = copies_stage g.seat.attempt.stage o copied (e ∙ ap (λ (s : own.Seat). doing_in s.attempt.stage) same) in
    record { want = found.0; stage_is = found.1; facts = sourced k words t n o found.0 copied h l g found.1; same = same }

-- its word stands on the device
pub source_low : (k : Kernel) (words : Words) (s : own.Seat) (o copied : ℕ) → IsSourced k s o copied → slot_place (layout_on (device_at k.set words)) k.set o s.slot + copied < need_on (device_at k.set words)
source_low k words s o copied h = slot_place-high (layout_on (device_at k.set words)) k.set o s.slot copied h.object h.slot h.word
