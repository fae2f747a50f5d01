-- Which tries of the table machine an attempt stands for. This project's own.
use Rattle.std.specs.Prelude.{◌≡◌, ℕ, ◌<◌, ◌≤◌, Bool, false, List, ◌∷◌, length, map, take, Option, Some, None, is_some}
use Rattle.std.specs.List.{AllByRecursion, list_any}
use Rattle.object_sets.specs.ObjectSets.{AreBelow, IsIncreasing, is_among}
use Rattle.object_sets.specs.Pairs.{AllPairsByRecursion}
use Rattle.rv_core.specs.State.{MachineState}
use Rattle.nv_base.specs.declared.limits.TheConstants.{MAX_SPAWNS}
use Rattle.nv_base.specs.declared.lines.Outcome.{Outcome}
use Rattle.kernel_model.specs.Effects.{Objects, Run, Write, object_words, written}
use Rattle.kernel_model.specs.Intervals.{Interval}
use Rattle.slot_model.specs.Tabled.{View}
use Rattle.set_model.specs.Sets.{TaskSet, object_at}
use Rattle.set_model.specs.Views.{outcome_of, spawn_of}
use Rattle.task_model.specs.Shape.{HasShape}
use Rattle.table_machine.specs.Tables.{Copy, Try, Seat, Vacant, Runs, Copies, Waits}
use Rattle.table_machine.specs.Places.{objects_of, run_by}
use Rattle.vol_copy.specs.Wants.{Awaits}
use Rattle.vol_copy.specs.declared.attempt.Attempt.{Attempt}
use Rattle.vol_copy.specs.declared.attempt.Stage.{Stage}
use Rattle.vol_copy.specs.declared.attempt.Stage.TheVariants as stage
use Rattle.vol_copy.specs.declared.want.Want.{Want}

-- the words that were written last, in order of the objects
abbrev pub writes_in : (written : List ℕ) → Objects → List Write
writes_in written words = map (λ o. record { object = o; words = object_words words o }) written

-- copies of these objects, each once, with the words that are kept of them
pub record AreCopies (reads : List ℕ) (kept : Objects) (copies : List Copy) : Type 0 where
  pub objects : objects_of copies ≡ reads
  pub once : AllPairsByRecursion (λ c d. c.object ≡ d.object → ⊥) copies
  pub words : AllByRecursion (λ c. c.words ≡ object_words kept c.object) copies

-- a try of the same task, which has written and spawned the same
pub record HasDone (a : Attempt) (t : Try MachineState) : Type 0 where
  pub task : t.task ≡ a.task.0
  pub writes : t.writes ≡ writes_in a.written a.words
  pub spawns : t.spawns ≡ map spawn_of a.spawns
  pub state : t.state ≡ a.machine

-- a try that runs on
pub record IsTry (a : Attempt) (t : Try MachineState) : Type 0 where
  pub done : HasDone a t
  pub copies : AreCopies a.reads a.copies t.copies

-- a try that copies an object, of which it has so many words
pub record IsCopyingTry (a : Attempt) (object copied : ℕ) (t : Try MachineState) : Type 0 where
  pub done : HasDone a t
  pub older : List Copy
  pub newest : t.copies ≡ record { object = object; words = take copied (object_words a.copies object) } ∷ older
  pub copies : AreCopies a.reads a.copies (record { object = object; words = object_words a.copies object } ∷ older)

-- the whole run of a try that has ended so: the machine is of no account
abbrev pub run_in : Attempt → Outcome → Run
run_in a outcome = record { outcome = outcome_of outcome; reads = a.reads; writes = writes_in a.written a.words; spawns = map spawn_of a.spawns }

pub record IsEndedTry (a : Attempt) (outcome : Outcome) (t : Try MachineState) : Type 0 where
  pub task : t.task ≡ a.task.0
  pub run : run_by t (outcome_of outcome) ≡ run_in a outcome

-- an attempt stands for a seat of the table machine with this interval of reads. While a version is to be chosen it stands for none: the same step chooses it
abbrev pub IsSeatAt : Attempt → Interval → Stage → Seat MachineState → Type 0
IsSeatAt a i stage.Blank seat = seat ≡ Vacant
IsSeatAt a i stage.Running seat = (t : Try MachineState) × IsTry a t × (t.interval ≡ i) × (seat ≡ Runs t)
IsSeatAt a i (stage.Fetching object want) seat = ⊥
IsSeatAt a i (stage.Copying object want copied) seat = (t : Try MachineState) × (slot : ℕ) × IsCopyingTry a object.0 copied t × (t.interval ≡ i) × (seat ≡ Copies t slot)
IsSeatAt a i (stage.Ready outcome) seat = (t : Try MachineState) × IsEndedTry a outcome t × (t.interval ≡ i) × (seat ≡ Waits t (outcome_of outcome))

abbrev pub IsSeat : Attempt → Interval → Seat MachineState → Type 0
IsSeat a i seat = IsSeatAt a i a.stage seat

-- the slot that a seat copies from, 0 if none
abbrev pub slot_on : Seat MachineState → ℕ
slot_on (Copies t slot) = slot
slot_on _ = 0

-- what verdicts on other cores ask of a seat: nothing of a blank attempt, else the interval, and the slot that is copied from
abbrev pub view_in : Interval → (slot : ℕ) → Stage → Option View
view_in i slot stage.Blank = None
view_in i slot stage.Running = Some (record { interval = i; copying = None })
view_in i slot (stage.Fetching object want) = Some (record { interval = i; copying = None })
view_in i slot (stage.Copying object want copied) = Some (record { interval = i; copying = Some (record { object = object.0; slot = slot }) })
view_in i slot (stage.Ready outcome) = Some (record { interval = i; copying = None })

-- the task that a seat holds, if it holds one
abbrev pub task_in : Attempt → Stage → Option ℕ
task_in a stage.Blank = None
task_in a stage.Running = Some a.task.0
task_in a (stage.Fetching object want) = Some a.task.0
task_in a (stage.Copying object want copied) = Some a.task.0
task_in a (stage.Ready outcome) = Some a.task.0

-- whether it has read one of the objects that some writes are to
abbrev pub has_read : Attempt → List Write → Bool
has_read a ws = list_any (λ o. is_some (written ws o)) a.reads

-- what the machine waits for: the words of an object of the set that the attempt has not written, and what it wants of them
pub record IsWaiting (set : TaskSet) (a : Attempt) (object : ℕ) (want : Want) : Type 0 where
  pub inside : object < length set.objects
  pub some : 0 < (object_at set object).size
  pub unwritten : is_among object a.written ≡ false
  pub awaits : Awaits a.machine (object_at set object).size want

abbrev pub IsForAt : TaskSet → Attempt → Stage → Type 0
IsForAt set a stage.Blank = Unit {0}
IsForAt set a stage.Running = Unit {0}
IsForAt set a (stage.Fetching object want) = IsWaiting set a object.0 want × (is_among object.0 a.reads ≡ false)
IsForAt set a (stage.Copying object want copied) = IsWaiting set a object.0 want × (copied < (object_at set object.0).size)
IsForAt set a (stage.Ready outcome) = Unit {0}

-- the attempt has room for all tasks of a set, and what it keeps is of this set
pub record IsFor (set : TaskSet) (a : Attempt) : Type 0 where
  pub memory : length a.machine.memory ≡ set.memory
  pub copies : HasShape set a.copies
  pub words : HasShape set a.words
  pub reads : AreBelow (length set.objects) a.reads
  pub written : AreBelow (length set.objects) a.written
  pub increasing : IsIncreasing a.written
  pub children : AllByRecursion (λ s. s.program.0 < length set.programs) a.spawns
  pub spawns : length a.spawns ≤ MAX_SPAWNS
  pub stage : IsForAt set a a.stage
