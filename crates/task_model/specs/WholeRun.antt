-- What a whole run is in the kernel's model. This project's own.
use Rattle.std.specs.Prelude.{◌≡◌, map}
use Rattle.kernel_model.specs.Effects.{Objects, Run, put}
use Rattle.set_model.specs.Views.{outcome_of, spawn_of}
use Rattle.task_model.specs.declared.whole_run.Whole.{Whole}

pub record IsWholeRun (w : Whole) (run : Run) (objects : Objects) : Type 0 where
  pub outcome : outcome_of w.outcome ≡ run.outcome
  pub reads : w.reads ≡ run.reads
  pub written : w.written ≡ map (λ v. v.object) run.writes
  pub values : w.values ≡ put run.writes objects
  pub spawns : map spawn_of w.spawns ≡ run.spawns
