-- What tables keep in place of a history, and what they give: this project's own.
use Rattle.std.specs.Prelude.{◌≡◌, ◌<◌, ℕ, zero, suc, ◌+◌, ◌-◌, ◌==◌, nat_lt, nat_le, max, Bool, false, not, ◌&&◌, ◌||◌, is_none, is_some, List, [], ◌∷◌, map, filter, length, Option, Some, None, unwrap_or, if◌then◌else◌}
use Rattle.std.specs.List.{list_any}
use Rattle.kernel_model.specs.Sizes.{Sizes}
use Rattle.kernel_model.specs.Effects.{Run, Write, written}
use Rattle.kernel_model.specs.Items.{FinishRecord}
use Rattle.kernel_model.specs.Replay.{DeviceState, clock_of, next_id}
use Rattle.kernel_model.specs.OpenTasks.{open_tasks}
use Rattle.kernel_model.specs.Versions.{Read, Version}
use Rattle.kernel_model.specs.Intervals.{Interval, is_empty, point_of, read_interval, sooner}
use Rattle.kernel_model.specs.Cores.{Core, Idle, Running, Copying, Ready, Committing}
use Rattle.kernel_model.specs.Room.{is_below}
use Rattle.kernel_model.specs.Verdicts.{Verdict, Granted, Empty, Slots, Records}
use Rattle.kernel_model.specs.Bounds.{bound_of, raised_by, with_touch}
use Rattle.kernel_model.specs.Chain.{cut}
use Rattle.slot_model.specs.Slots.{Image}
use Rattle.slot_model.specs.Kept.{Held, Kept}
use Rattle.slot_model.specs.Places.{free_from}

-- a slot with a version, as a table keeps it
pub record Place : Type 0 where
  pub slot : ℕ
  pub begin : ℕ
  pub end : Option ℕ

abbrev pub place_of : Held → Place
place_of h = record { slot = h.slot; begin = h.version.begin; end = h.version.end }

-- the chain of an object, as a table keeps it
abbrev pub places_of : List Held → List Place
places_of chain = map place_of chain

-- the newest that begins before hi
abbrev pub chosen_place : Option ℕ → List Place → Option Place
chosen_place hi [] = None
chosen_place None (p ∷ places) = Some p
chosen_place (Some hi) (p ∷ places) =
    if nat_lt p.begin hi then Some p else chosen_place (Some hi) places

-- the chain after a finish at a point, with its version in slot k
abbrev pub installed : (point k : ℕ) → List Place → List Place
installed point k [] = record { slot = k; begin = point; end = None } ∷ []
installed point k (p ∷ places) =
    record { slot = k; begin = point; end = None } ∷ record p { end = Some point }
    ∷ filter (λ q. not (q.slot == k)) places

-- an interval once this version was read
abbrev pub with_place : Place → Interval → Interval
with_place p i = record { lo = max p.begin i.lo; hi = sooner p.end i.hi }

-- whether a finish writes an object that was read
abbrev pub is_written_read : FinishRecord → List Read → Bool
is_written_read i reads = list_any (λ r. is_some (written i.run.writes r.object)) reads

-- a slot that a core copies from
pub record Pin : Type 0 where
  pub object : ℕ
  pub slot : ℕ

-- what is kept of an attempt
pub record View : Type 0 where
  pub interval : Interval  -- of its reads
  pub copying : Option Pin

-- where the newest read is copied from
abbrev pub pin_of : (slot : ℕ) → List Read → Option Pin
pin_of slot [] = None
pin_of slot (r ∷ reads) = Some (record { object = r.object; slot = slot })

-- what is kept of a core's attempt, if it has one
abbrev pub view_of : {M : Type 0} → DeviceState → List FinishRecord → (slot : ℕ) → Core M → Option View
view_of base history slot Idle = None
view_of base history slot (Running a) =
    Some (record { interval = read_interval base history a.start a.reads; copying = None })
view_of base history slot (Copying a copied) =
    let interval = read_interval base history a.start a.reads in
    Some (record { interval = interval; copying = pin_of slot a.reads })
view_of base history slot (Ready a outcome) =
    Some (record { interval = read_interval base history a.start a.reads; copying = None })
view_of base history slot (Committing i left) = None

abbrev pub with_view : Option View → List View → List View
with_view None views = views
with_view (Some v) views = v ∷ views

-- of all attempts, where the first of these cores has this number
abbrev pub views_of : {M : Type 0} → DeviceState → List FinishRecord → (pins : ℕ → ℕ) → (k : ℕ) → List (Core M)
    → List View
views_of base history pins k [] = []
views_of base history pins k (c ∷ cores) =
    with_view (view_of base history (pins k) c) (views_of base history pins (suc k) cores)

-- whether an attempt copies from a place
abbrev pub is_copied_from : ℕ → Place → Option Pin → Bool
is_copied_from o p None = false
is_copied_from o p (Some pin) = pin.object == o && pin.slot == p.slot

-- whether the version at a place and an interval have a common point
abbrev pub meets_at : Place → Interval → Bool
meets_at p i = is_below (max p.begin i.lo) p.end && is_below (max p.begin i.lo) i.hi

-- whether some of these attempts needs the version at a place
abbrev pub is_needed_at : ℕ → List View → Place → Bool
is_needed_at o views p = list_any (λ v. is_copied_from o p v.copying || meets_at p v.interval) views

-- whether slot k has the newest version, or a needed one
abbrev pub is_taken_at : ℕ → List View → List Place → ℕ → Bool
is_taken_at o views places k =
    list_any (λ p. p.slot == k && (is_none p.end || is_needed_at o views p)) places

-- the least free slot, by tables alone
abbrev pub free_place : (slots o : ℕ) → List View → List Place → Option ℕ
free_place slots o views places = free_from 0 slots (is_taken_at o views places)

-- what a kernel keeps of its listing
pub record Tables : Type 0 where
  pub places : ℕ → List Place  -- of each object, newest first
  pub bounds : ℕ → ℕ  -- of each object
  pub clock : ℕ
  pub number : ℕ  -- of the last finish
  pub next : ℕ  -- above all ids so far
  pub pending : ℕ  -- as many tasks are open

-- they are those of a history, where the clock at the last boot was floor
pub record AreTables (sizes : Sizes) (base : DeviceState) (floor : ℕ) (history : List FinishRecord) (kept : Kept)
    (t : Tables) : Type 0 where
  pub places : (o : ℕ) → o < sizes.objects → t.places o ≡ places_of (kept.chains o)
  pub bounds : (o : ℕ) → o < sizes.objects → t.bounds o ≡ bound_of floor o history
  pub clock : t.clock ≡ clock_of base history
  pub number : t.number ≡ base.number + length history
  pub next : t.next ≡ next_id base history
  pub pending : t.pending ≡ length (open_tasks base history)

-- the least written object that has no free slot
abbrev pub full_object : Sizes → (ℕ → List Place) → List View → List Write → Option ℕ
full_object sizes places views [] = None
full_object sizes places views (w ∷ ws) =
    if is_some (free_place (sizes.slots w.object) w.object views (places w.object))
    then full_object sizes places views ws else Some w.object

-- the finish that is granted
abbrev pub table_finish : Tables → (task : ℕ) → Run → Interval → FinishRecord
table_finish t task run i = record {
  number = t.number + 1;
  task = task;
  point = point_of t.clock run.writes i;
  first = t.next;
  run = run;
}

-- the verdict where the interval of the finish is not empty
abbrev pub table_room : Sizes → Tables → (task : ℕ) → Run → Interval → Option ℕ → Verdict
table_room sizes t task run i (Some o) = Slots o
table_room sizes t task run i None =
    if nat_le (t.pending - 1 + length run.spawns) sizes.records
    then Granted (table_finish t task run i) else Records t.pending (length run.spawns)

-- the verdict on a ready attempt with this interval of reads and this whole run, by tables alone
abbrev pub table_verdict : Sizes → Tables → (others : List View) → (task : ℕ) → Interval → Run
    → Verdict
table_verdict sizes t others task reads run =
    let i = raised_by t.bounds run.writes reads in
    if is_empty i then Empty i.lo (unwrap_or i.hi 0)
    else table_room sizes t task run i (full_object sizes t.places others run.writes)

-- after a finish, with its versions in these slots
abbrev pub tables_with : FinishRecord → (plan : ℕ → ℕ) → Tables → Tables
tables_with i plan t = record {
  places = λ o. elim (written i.run.writes o) [
    | None ↦ t.places o
    | Some words ↦ installed i.point (plan o) (t.places o)
  ];
  bounds = λ o. with_touch (Some i) o (t.bounds o);
  clock = max i.point t.clock;
  number = t.number + 1;
  next = t.next + length i.run.spawns;
  pending = t.pending - 1 + length i.run.spawns;
}

-- after a boot, of what the durable index says
abbrev pub fresh_tables : (named : ℕ → ℕ) → DeviceState → Tables
fresh_tables named state = record {
  places = λ o. record { slot = named o; begin = state.clock; end = None } ∷ [];
  bounds = λ o. state.clock;
  clock = state.clock;
  number = state.number;
  next = state.next;
  pending = length state.tasks;
}

-- an outside read, by tables: the place that is chosen, and the interval after
pub record IsRead (sizes : Sizes) (base : DeviceState) (history : List FinishRecord) (start : ℕ)
    (reads : List Read) (o : ℕ) (places : List Place) (image : Image) (v : Version) : Type 0 where
  pub place : Place
  pub chosen_is : chosen_place (read_interval base history start reads).hi places ≡ Some place
  pub slot : place.slot < sizes.slots o
  pub words : image o place.slot ≡ v.words
  pub interval : read_interval base history start (record { object = o; writer = v.writer } ∷ reads)
      ≡ with_place place (read_interval base history start reads)

-- the tables after a finish, if one joins
abbrev pub tables_joined : Option FinishRecord → (plan : ℕ → ℕ) → Tables → Tables
tables_joined None plan t = t
tables_joined (Some i) plan t = tables_with i plan t

-- the reads of a core's attempt
abbrev pub reads_of : {M : Type 0} → Core M → List Read
reads_of Idle = []
reads_of (Running a) = a.reads
reads_of (Copying a copied) = a.reads
reads_of (Ready a outcome) = a.reads
reads_of (Committing i left) = []

-- what is kept of an attempt with these reads after a finish, if one joins
abbrev pub cut_view : Option FinishRecord → List Read → Option View → Option View
cut_view None reads view = view
cut_view (Some i) reads None = None
cut_view (Some i) reads (Some v) =
    Some (record v { interval = cut i.point (is_written_read i reads) v.interval })

-- what is kept of all attempts but core n's, where this is what is kept of each core's, from core k on
abbrev pub others_views : (ℕ → Option View) → (n k count : ℕ) → List View
others_views views n k zero = []
others_views views n k (suc count) =
    if k == n then others_views views n (suc k) count
    else with_view (views k) (others_views views n (suc k) count)
