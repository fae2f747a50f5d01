-- What a listing leaves, as the program has it, and what its serial replay answers. This project's own, over the kernel model's replay of entries.
use Rattle.std.specs.Prelude.{◌≡◌, ℕ, ◌<◌, List, length, map, get_or}
use Rattle.std.specs.List.{AllByRecursion}
use Rattle.kernel_model.specs.Effects.{Programs}
use Rattle.kernel_model.specs.Runs.{whole_run}
use Rattle.kernel_model.specs.Replay.{DeviceState}
use Rattle.kernel_model.specs.EntryReplay as model
use Rattle.nv_base.specs.declared.lines.Entry as base
use Rattle.set_model.specs.Sets.{TaskSet}
use Rattle.set_model.specs.Formatted.{formatted}
use Rattle.set_model.specs.Views.{entry_of, task_of}
use Rattle.task_model.specs.TaskSteps.{task_steps}
use Rattle.task_model.specs.Shape.{HasShape}
use Rattle.task_model.specs.declared.finals.Final.{Final}
use Rattle.task_model.specs.declared.finals.Replay.{Replay}
use Rattle.task_model.specs.declared.finals.Replay.TheVariants as replay
use Rattle.task_model.specs.declared.finals.Replayed.{Replayed}
use Rattle.task_model.specs.declared.finals.Replayed.TheVariants as replayed

-- the state that a final stands for
abbrev pub state_of : Final → DeviceState
state_of f = record { objects = f.objects; tasks = map task_of f.tasks; clock = f.clock.0; number = f.number.0; next = f.next.0 }

-- the whole runs of a set's tasks
abbrev pub runs_of : TaskSet → Programs
runs_of set = whole_run (task_steps set)

-- the serial replay of a listing from the state that a format of the set leaves
abbrev pub replay_of : TaskSet → List base.Entry → model.Replayed
replay_of set listing = model.replay (runs_of set) (formatted set) (map entry_of listing)

-- f is the state that a listing leaves, where its replay found these finishes
abbrev pub LeavesFinal : TaskSet → List base.Entry → List model.Rerun → Final → Type 0
LeavesFinal set listing reruns f = model.Leaves (formatted set) (map entry_of listing) reruns (state_of f)

-- what the replay of a listing answers: the state that the listing leaves, or the place of the first wrong entry
abbrev pub Answers : TaskSet → List base.Entry → Replay → Type 0
Answers set listing (replay.Wrong place) = replay_of set listing ≡ model.Wrong place
Answers set listing (replay.Good f) = (reruns : List model.Rerun) × (replay_of set listing ≡ model.Good reruns) × LeavesFinal set listing reruns f

-- how many tasks each finish spawned, by its place in the listing
abbrev pub AreSpawnsOf : List ℕ → List model.Rerun → Type 0
AreSpawnsOf counts reruns = (place : ℕ) → get_or counts place 0 ≡ model.spawns_at place reruns

-- the same answer, with the spawns
abbrev pub AnswersWithSpawns : TaskSet → List base.Entry → Replayed → Type 0
AnswersWithSpawns set listing (replayed.Wrong place) = replay_of set listing ≡ model.Wrong place
AnswersWithSpawns set listing (replayed.Good f counts) =
    (reruns : List model.Rerun) × (replay_of set listing ≡ model.Good reruns) × LeavesFinal set listing reruns f × AreSpawnsOf counts reruns × (length counts ≡ length listing)

-- a state on which the tasks of a set run: its objects are those of the set, by number and size, and its tasks run programs of the set
pub record IsFit (set : TaskSet) (s : DeviceState) : Type 0 where
  pub shape : HasShape set s.objects
  pub programs : AllByRecursion (λ t. t.program < length set.programs) s.tasks
