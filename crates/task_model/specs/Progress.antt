-- How the code's progress stands for what a run of the model has done. This project's own.
use Rattle.std.specs.Prelude.{◌≡◌, ℕ, suc, List, [], length, map, Option, Some, None, if◌then◌else◌}
use Rattle.object_sets.specs.ObjectSets.{IsIncreasing, is_among, with_object}
use Rattle.rv_core.specs.State.{MachineState, StepResult}
use Rattle.rv_core.specs.Machine.{step_of}
use Rattle.nv_base.specs.declared.lines.Outcome.{Outcome}
use Rattle.kernel_model.specs.Effects.{Effects, Objects, ended, put}
use Rattle.kernel_model.specs.Runs.{Step, run_from}
use Rattle.set_model.specs.Sets.{TaskSet}
use Rattle.set_model.specs.Views.{outcome_of, spawn_of}
use Rattle.task_model.specs.TaskSteps.{served, task_steps}
use Rattle.task_model.specs.Shape.{HasShape}
use Rattle.task_model.specs.declared.progress.Progress.{Progress}

-- the code's progress, from these objects, is what the run has done
pub record Stands (set : TaskSet) (objects : Objects) (e : Effects) (p : Progress) : Type 0 where
  pub values : p.values ≡ put e.writes objects
  pub shape : HasShape set p.values
  pub reads : p.reads ≡ e.reads
  pub written : p.written ≡ map (λ w. w.object) e.writes
  pub increasing : IsIncreasing p.written
  pub spawns : map spawn_of p.spawns ≡ e.spawns

-- nothing is done yet on these objects
abbrev pub HasBegun : Progress → Objects → Type 0
HasBegun p objects = (p.values ≡ objects) × (p.reads ≡ []) × (p.written ≡ []) × (p.spawns ≡ [])

-- the objects read from outside, with one that is read now: it is among them, unless the task wrote it
abbrev pub reads_noted : Progress → ℕ → List ℕ
reads_noted p o = if is_among o p.written then p.reads else with_object o p.reads

-- the run goes on behind the step with what was done then, or it ends
abbrev pub LeadsTo : TaskSet → Objects → Effects → Step MachineState → Option Outcome → MachineState → Progress → Type 0
LeadsTo set objects e step None m p =
    (f : Effects) × Stands set objects f p × ((n : ℕ) → run_from (task_steps set) objects (suc n) e step ≡ run_from (task_steps set) objects n f (served set (step_of m)))
LeadsTo set objects e step (Some outcome) m p = Stands set objects e p × ((n : ℕ) → run_from (task_steps set) objects (suc n) e step ≡ ended e (outcome_of outcome))

-- what a step of the machine makes of a run, in each set with so many programs
unfoldable pub Turns : ℕ → Progress → StepResult → Option Outcome → MachineState → Progress → Type 0
Turns programs p result outcome m q =
    (set : TaskSet) (objects : Objects) (e : Effects) → length set.programs ≡ programs → Stands set objects e p → LeadsTo set objects e (served set result) outcome m q
