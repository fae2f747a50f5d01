-- The tables of a replay: one copy of each object, and the open tasks, as the program keeps them. This project's own.
use Rattle.std.specs.Prelude.{◌≡◌, ℕ, ◌<◌, length, Option, Some, None}
use Rattle.std.specs.Option.{option_map}
use Rattle.std.specs.Ordering.{nat_cmp}
use Rattle.std.specs.BTreeMap.{get}
use Rattle.kernel_model.specs.Effects.{Spawn}
use Rattle.kernel_model.specs.Items.{Entry, FinishRecord}
use Rattle.kernel_model.specs.Replay as model
use Rattle.kernel_model.specs.EntryReplay.{item_on}
use Rattle.nv_base.specs.declared.lines.Spawn as base
use Rattle.set_model.specs.Sets.{TaskSet}
use Rattle.set_model.specs.Views.{spawn_of}
use Rattle.task_model.specs.Finals.{runs_of}
use Rattle.task_model.specs.Shape.{HasShape}
use Rattle.task_model.specs.declared.open_tasks.OpenTasks.{OpenTasks}
use Rattle.task_model.specs.declared.tables.Tables.{Tables}

-- an entry of the map, as a task
abbrev pub listed : ℕ × base.Spawn → model.TaskRec
listed e = record { id = e.0; program = e.1.program.0; arg = e.1.arg }

-- the task that is open under each id
abbrev pub open_under : OpenTasks → model.Tasks
open_under o id = option_map spawn_of (get nat_cmp o.tasks id)

-- the tables of the model
abbrev pub tables_seen : Tables → model.Tables
tables_seen t = record { objects = t.objects; tasks = open_under t.open }

-- each open task runs a program of the set
abbrev pub AreOfSet : TaskSet → model.Tasks → Type 0
AreOfSet set tasks = (id : ℕ) (s : Spawn) → tasks id ≡ Some s → s.program < length set.programs

-- tables on which the tasks of a set run: the objects are those of the set, by number and size, and each open task runs a program of the set
pub record AreFit (set : TaskSet) (t : model.Tables) : Type 0 where
  pub shape : HasShape set t.objects
  pub programs : AreOfSet set t.tasks

-- what the turn of an entry makes of the tables: its finish and how many tasks this spawned, or no finish
abbrev pub TakesTurn : TaskSet → (old new : model.Tables) → Entry → Option ℕ → Type 0
TakesTurn set old new e None = item_on (runs_of set) old e ≡ None
TakesTurn set old new e (Some spawned) = (i : FinishRecord) × (item_on (runs_of set) old e ≡ Some i) × (new ≡ model.after i old) × (spawned ≡ length i.run.spawns)
