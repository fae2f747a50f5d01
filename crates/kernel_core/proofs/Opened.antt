-- A kernel that begins on a device whose words hold a state.
use Rattle.std.proofs.Common.{◌≡◌, ◌⊎◌, inl, inr, ℕ, zero, suc, ◌<◌, ◌≤◌, ◌++◌, Bool, true, false, nat_eq, List, [], get_or, length, map, replicate, slice_index, None, refl, sym, ap, ◌∙◌, subst, arith}
use Rattle.std.specs.Prelude.{vec_capacity}
use Rattle.std.proofs.lemmas.Bool.{eqb-false, eqb-true}
use Rattle.fram_dev.specs.Device.{Change, made_in}
use Rattle.nv_base.specs.Streams.{FaultCounted}
use Rattle.rv_core.specs.State.{MachineState}
use Rattle.kernel_model.specs.Replay.{max_id}
use Rattle.kernel_model.specs.Events.{Power, On, opened}
use Rattle.kernel_model.specs.Fit.{IsMachine}
use Rattle.set_model.specs.Sets.{TaskSet}
use Rattle.set_model.specs.Limits.{IsTaskSet}
use Rattle.set_model.specs.Numbers.{sizes_of}
use Rattle.set_model.specs.Views.{entry_if, entry_of}
use Rattle.device_model.specs.Words.{Words}
use Rattle.device_model.specs.Layouts.{IsKindOf, Plain, Paged, kind_named}
use Rattle.device_model.specs.IndexWords.{IsIndex, base_of}
use Rattle.device_model.specs.Decoding.{Held}
use Rattle.device_model.specs.Decoding as stored
use Rattle.device_model.specs.Counting.{sizes_on}
use Rattle.device_model.specs.Keeping.{KeepsIn}
use Rattle.device_model.specs.Devices.{Device, HoldsOn, IsKindOn, first_on, format_on, held_on, layout_on, need_on}
use Rattle.device_model.proofs.ForCallers.{decodes_keeps, laid_out_set}
use Rattle.shadow_index.specs.States.{index_of}
use Rattle.shadow_index.specs.Tells.{IsLayoutOf, IsShift, device_of, kind_by}
use Rattle.shadow_index.specs.Views.{first_kind}
use Rattle.recovery.specs.Images.{IsOwn, IsStateOn, device_at, kind_or, words_of}
use Rattle.recovery.specs.Reading.{IsRead, IsRefused}
use Rattle.recovery.specs.declared.refusals.BootRefusal.{BootRefusal}
use Rattle.recovery.specs.declared.refusals.BootRefusal.TheVariants as refusal
use Rattle.shadow_index.specs.declared.state.State.{State}
use Rattle.commit_writer.specs.Rooms.{IsFor as HasTables}
use Rattle.table_machine.specs.Tables.{Seat, Vacant, Saves, Setting, Tables, sizes_in}
use Rattle.table_machine.specs.Events.{reopened}
use Rattle.table_machine.specs.Represents.{Represents}
use Rattle.table_machine.specs.Simulates.{IsSetting, opened_tables}
use Rattle.task_model.specs.TaskSteps.{task_steps}
use Rattle.committed_state.specs.Committed.{HasRooms, IsCommitted, chains_in}
use Rattle.core_seats.specs.Holding.{AreSeats}
use Rattle.headline.specs.Runs.{Origin, first_state}
use Rattle.kernel_core.specs.Commits.{setting_on}
use Rattle.kernel_core.specs.Keeping.{IsOn, IsPowered, Keeps}
use Rattle.kernel_core.specs.Events.{IsAt}
use Rattle.kernel_core.specs.Opening.{AreIdle}
use Rattle.kernel_core.specs.declared.kernel.Kernel.{Kernel}
use Rattle.kernel_core.specs.declared.kernel.Power.TheVariants as power
use Rattle.kernel_core.proofs.Idle.{idle_kept, vacant_seats}

-- words of the device that a format writes are not those of format 1 for a set of format 2
pub own_of : (set : TaskSet) (words : Words) → device_at set words ≡ device_of set 0 → IsOwn set words
own_of set words e = λ f g.
    let kind : kind_or (first_kind set.format) (kind_named set.format (words 0)) ≡ kind_by set.format 0 = ap (λ (d : Device). d.kind) e in
    let plain : kind_or (first_kind set.format) (kind_named set.format (words 0)) ≡ Plain = ap (λ (w : ℕ). kind_or (first_kind set.format) (kind_named set.format w)) g in
    let paged : kind_by set.format 0 ≡ Paged = ap (λ (n : ℕ). kind_by n 0) f in
    cc (sym plain ∙ kind ∙ paged)

-- words that hold a state keep it
pub kept_on : (d : Device) (h : Held) (words : Words) → IsTaskSet d.set → HoldsOn d h words → KeepsIn d.set (layout_on d) h words
kept_on d h words t e = decodes_keeps d.set.format d.kind d.set h words (λ k. laid_out_set k d.set t) e

-- the machine of the tasks, with the numbers of the set on a device
pub machine_on : (set : TaskSet) (d : Device) → IsMachine (task_steps set) (sizes_of set) → IsMachine (task_steps set) (sizes_on (layout_on d) set)
machine_on set d m = record { went = m.went; reads = m.reads; given = m.given; rewrites = m.rewrites; wrote = λ a b w e. ((m.wrote a b w e).0, record { object = (m.wrote a b w e).1.object; words = (m.wrote a b w e).1.words }); spawns = m.spawns; spawned = m.spawned; ends = m.ends }

-- what a kernel is once it has read a state
pub record HasBegun (k : Kernel) (words : Words) (h : Held) : Type 0 where
  pub limits : IsTaskSet k.set
  pub own : IsOwn k.set words
  pub kind : IsKindOf k.set.format (device_at k.set words).kind
  pub holds : HoldsOn (device_at k.set words) h words
  pub layout : IsLayoutOf (device_at k.set words) k.layout
  pub seats : AreIdle k.set k.set.cores k.seats.items
  pub rooms : HasRooms k.set k.committed
  pub committed : IsCommitted k.set k.committed
  pub chains : chains_in k.committed ≡ reopened k.set h.index
  pub state : IsStateOn (device_at k.set words) h k.committed.state
  pub shift : IsShift k.set k.committed.state.shift
  pub device : device_of k.set k.committed.state.shift ≡ device_at k.set words
  pub writer : HasTables k.set k.writer.job
  pub owed : k.owed ≡ None
  pub listing : k.listing.items ≡ []
  pub power : k.power ≡ power.On
  pub capacity : k.room ≤ vec_capacity k.listing
  pub few : k.room ≤ 1000000
  pub next : h.index.next ≤ 4000000000
  pub number : h.index.number ≤ 4000000000

-- the tables of the state
abbrev pub begun_tables : Kernel → Words → Held → Tables MachineState
begun_tables k words h = opened_tables (setting_on k.set words) h k.set.cores On

-- no seat of them saves a finish
abbrev no_task : Seat MachineState
no_task = Vacant

vacant_at : (count n : ℕ) → get_or (replicate count no_task) n no_task ≡ no_task
vacant_at zero n = refl
vacant_at (suc count) zero = refl
vacant_at (suc count) (suc n) = vacant_at count n

on_now : (k : Kernel) (words : Words) (h : Held) → HasBegun k words h → IsOn k words (begun_tables k words h)
on_now k words h b = record {
  power = refl;
  boots = sym b.state.boots;
  index = sym b.state.index;
  root = sym b.state.root;
  chains = sym b.chains;
  committed = b.committed;
  shift = b.shift;
  device = b.device;
  commits = λ n s i after left number e. absurd (let none : no_task ≡ Saves i after left = sym (vacant_at k.set.cores n) ∙ e in cc none);
}

pub begun_keeps : (k : Kernel) (words : Words) (h : Held) → HasBegun k words h → Keeps k words (begun_tables k words h)
begun_keeps k words h b = record {
  limits = b.limits;
  cores = b.seats.number;
  few = let n = b.seats.number in omega (arith, n, b.limits.cores);
  attempts = idle_kept k.set k.seats.items b.seats.all;
  own = b.own;
  layout = b.layout;
  rooms = b.rooms;
  writer = b.writer;
  seats = subst (λ (n : ℕ). AreSeats k.seats.items (index_of k.committed.after) (replicate n Vacant)) b.seats.number (vacant_seats k.set k.seats.items (index_of k.committed.after) b.seats.all);
  owed = sym (ap entry_if b.owed);
  entries = sym (ap (map entry_of) b.listing);
  capacity = b.capacity;
  powered = subst (IsPowered k words (begun_tables k words h)) (sym b.power) (on_now k words h b);
}

-- the laws of the table machine
abbrev pub OpenedLaw : Type 0
OpenedLaw = (x : Setting MachineState) (h : Held) (words : Words) (cores : ℕ) (p : Power) → IsSetting x → IsMachine x.steps (sizes_in x) → KeepsIn x.set x.layout h words → h.index.next ≤ max_id
    → Represents x (base_of h.index h.objects) h.index.last (opened_tables x h cores p) words (opened cores p h.boots)

-- a run from there
abbrev pub begun_origin : Kernel → Words → Held → Origin
begun_origin k words h = record { device = device_at k.set words; base = base_of h.index h.objects; last = h.index.last; boots = h.boots; power = On }

pub begun : (k : Kernel) (words : Words) (h : Held) → OpenedLaw → IsSetting (setting_on k.set words) → IsMachine (task_steps k.set) (sizes_of k.set) → HasBegun k words h → IsAt (begun_origin k words h) k words (first_state (begun_origin k words h))
begun k words h law setting machine b = record {
  device = refl;
  tables = begun_tables k words h;
  keeps = begun_keeps k words h b;
  represented = law (setting_on k.set words) h words k.set.cores On setting (machine_on k.set (device_at k.set words) machine) (kept_on (device_at k.set words) h words b.limits b.holds) (omega (arith, b.next));
  kind = b.kind;
  ids = omega (arith, b.next, b.few);
  numbers = omega (arith, b.number, b.few);
  room = omega arith;
}

-- ---- after a format

-- the first kind of a device is one of its format
pub first_kind_of : (format : ℕ) → (1 ≤ format) × (format ≤ 2) → IsKindOf format (kind_by format 0)
first_kind_of format h = at (nat_eq format 1) refl
  where
    at : (b : Bool) → nat_eq format 1 ≡ b → IsKindOf format (kind_by format 0)
    at true e = subst (λ (f : ℕ). IsKindOf f (kind_by f 0)) (sym (eqb-true format 1 e)) refl
    at false e = let ne = eqb-false format 1 e in let two : 2 ≡ format = omega (arith, h.0, h.1, ne) in subst (λ (f : ℕ). IsKindOf f (kind_by f 0)) two refl

-- the laws of a format, and of words that hold a state
abbrev pub FormatLaw : Type 0
FormatLaw = (d : Device) (start : List ℕ) (old : List Change) → IsTaskSet d.set → IsKindOn d → need_on d ≤ length start → HoldsOn d (first_on d) (slice_index (made_in (old ++ format_on d) start))

abbrev pub OneLaw : Type 0
OneLaw = (d : Device) (g h : Held) (words : Words) → HoldsOn d g words → HoldsOn d h words → g ≡ h

abbrev pub DeviceLaw : Type 0
DeviceLaw = (d : Device) (h : Held) (words : Words) → HoldsOn d h words → device_at d.set words ≡ d

-- what stands on the device then
pub record IsFormatted (set : TaskSet) (words : Words) (len : ℕ) : Type 0 where
  pub holds : HoldsOn (device_of set 0) (first_on (device_of set 0)) words
  pub device : device_at set words ≡ device_of set 0
  pub long : need_on (device_of set 0) ≤ len

pub formatted : (set : TaskSet) (start same : List ℕ) (old log : List Change) → FormatLaw → DeviceLaw → IsTaskSet set → need_on (device_of set 0) ≤ length start → same ≡ start → log ≡ old ++ format_on (device_of set 0) → IsFormatted set (words_of log same) (length same)
formatted set start same old log law one t long e f =
    let d = device_of set 0 in
    let holds = subst (λ (xs : List ℕ). HoldsOn d (first_on d) (words_of log xs)) (sym e) (subst (λ (l : List Change). HoldsOn d (first_on d) (words_of l start)) (sym f) (law d start old t (first_kind_of set.format t.format) long)) in
    record { holds = holds; device = one d (first_on d) (words_of log same) holds; long = subst (λ (xs : List ℕ). need_on d ≤ length xs) (sym e) long }

-- what is read there is the first state
pub read_first : (set : TaskSet) (words : Words) (len : ℕ) (into : State) → OneLaw → IsFormatted set words len → IsRead set words into → IsStateOn (device_at set words) (first_on (device_of set 0)) into
read_first set words len into one f r =
    let d = device_of set 0 in
    let holds = subst (λ (e : Device). HoldsOn e (first_on d) words) (sym f.device) f.holds in
    subst (λ (h : Held). IsStateOn (device_at set words) h into) (one (device_at set words) (held_on (device_at set words) words) (first_on d) words r.held holds) r.state

-- it is an index that a device may have
pub read_index_fits : (set : TaskSet) (words : Words) (len : ℕ) (into : State) → OneLaw → IsTaskSet set → IsFormatted set words len → IsRead set words into → IsIndex set (index_of into)
read_index_fits set words len into one t f r =
    let d = device_of set 0 in
    subst (IsIndex set) (sym (read_first set words len into one f r).index) (kept_on d (first_on d) words t f.holds).held.index

-- so nothing is refused but for a call that is lost
pub lost_read : (set : TaskSet) (words : Words) (len old new : ℕ) (e : BootRefusal) → IsFormatted set words len → IsRefused set words old new e → FaultCounted old new
lost_read set words len old new refusal.Blank f r = let held : stored.Holds _ _ ≡ stored.Blank = sym f.holds ∙ r in absurd (cc held)
lost_read set words len old new (refusal.Damaged place) f r = let held : stored.Holds _ _ ≡ stored.Damaged place = sym f.holds ∙ r in absurd (cc held)
lost_read set words len old new refusal.Lost f r = r

-- a loss that is counted later is counted
pub counted_later : (a b c : ℕ) → a ≤ b → FaultCounted b c → FaultCounted a c
counted_later a b c l h = (omega (arith, l, h.0), at h.1)
  where
    at : (b < c) ⊎ (c ≡ 18446744073709551615) → (a < c) ⊎ (c ≡ 18446744073709551615)
    at (inl less) = inl (omega (arith, l, less))
    at (inr most) = inr most
