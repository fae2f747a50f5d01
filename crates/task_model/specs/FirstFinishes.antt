-- The finishes of a set's tasks where the least open task runs, whole and alone, again and again. This project's own.
use Rattle.std.specs.Prelude.{◌≡◌, ℕ, zero, suc, ◌+◌, ◌*◌, ◌<◌, nat_le, List, [], ◌∷◌, length, Option, Some, None, if◌then◌else◌}
use Rattle.kernel_model.specs.Effects.{Run, Write}
use Rattle.kernel_model.specs.Items.{Entry, FinishRecord, entry_of}
use Rattle.kernel_model.specs.Replay.{DeviceState, TaskRec}
use Rattle.kernel_model.specs.Durable.{state_left}
use Rattle.nv_base.specs.declared.lines.Entry as base
use Rattle.set_model.specs.Sets.{TaskSet}
use Rattle.set_model.specs.Formatted.{formatted}
use Rattle.set_model.specs.Views as views
use Rattle.task_model.specs.Finals.{runs_of}

-- the point of a finish with these writes: a finish with writes takes the one after the clock, another the clock
abbrev pub point_after : (clock : ℕ) → List Write → ℕ
point_after clock [] = clock
point_after clock (w ∷ writes) = clock + 1

-- the finish of a task whose run on a state is this
abbrev pub finish_with : DeviceState → (task : ℕ) → Run → FinishRecord
finish_with s task run = record { number = s.number + 1; task = task; point = point_after s.clock run.writes; first = s.next; run = run }

-- a finish, if there are records for the tasks that it leaves open, where so many others are
abbrev pub if_recorded : TaskSet → (others : ℕ) → FinishRecord → Option FinishRecord
if_recorded set others i = if nat_le (others + length i.run.spawns) set.records then Some i else None

-- the finish of the first of these tasks on a state
abbrev pub finish_of_first : TaskSet → DeviceState → List TaskRec → Option FinishRecord
finish_of_first set s [] = None
finish_of_first set s (t ∷ others) = if_recorded set (length others) (finish_with s t.id (runs_of set t.program t.arg s.objects))

-- the finish of the least open task: none where no task is open, or where records are not enough
abbrev pub least_finish : TaskSet → DeviceState → Option FinishRecord
least_finish set s = finish_of_first set s s.tasks

-- some finishes, and the state that they leave
pub record Finished : Type 0 where
  pub entries : List Entry
  pub state : DeviceState

-- with a finish before
abbrev pub finished_before : FinishRecord → Finished → Finished
finished_before i f = record { entries = entry_of i ∷ f.entries; state = f.state }

-- the least open task again and again, at most n times
abbrev pub first_finishes : TaskSet → ℕ → DeviceState → Finished
first_finishes set zero s = record { entries = []; state = s }
first_finishes set (suc n) s = elim (least_finish set s) [
  | None ↦ record { entries = []; state = s }
  | Some i ↦ finished_before i (first_finishes set n (state_left s (i ∷ [])))
]

-- what a turn makes of a state, with the entry that it gives, if any
abbrev pub Advances : TaskSet → (old new : DeviceState) → Option base.Entry → Type 0
Advances set old new None = (least_finish set old ≡ None) × (new ≡ old)
Advances set old new (Some e) = (i : FinishRecord) × (least_finish set old ≡ Some i) × (views.entry_of e ≡ entry_of i) × (new ≡ state_left old (i ∷ []))

-- so many more finishes count no number, point or id beyond 32 bits
pub record HasRoom (turns : ℕ) (s : DeviceState) : Type 0 where
  pub clock : s.clock + turns < 4294967296
  pub number : s.number + turns < 4294967296
  pub next : s.next + 8 * turns < 4294967296

-- a state takes over what the run of an open task makes, and this is the entry
abbrev pub IsFinished : (old new : DeviceState) → (task : ℕ) → Run → base.Entry → Type 0
IsFinished old new task run e = (views.entry_of e ≡ entry_of (finish_with old task run)) × (new ≡ state_left old (finish_with old task run ∷ []))

-- these are the first n finishes from the formatted state, and the state that they leave
abbrev pub AreFirst : TaskSet → ℕ → List Entry → DeviceState → Type 0
AreFirst set n entries f = first_finishes set n (formatted set) ≡ record { entries = entries; state = f }
