-- What the lines of a script give. This project's own.
use Rattle.std.specs.Prelude.{ℕ, ◌+◌, List, [], length, Option, None}
use Rattle.set_model.specs.Sets.{TaskSet}
use Rattle.schedule_model.specs.Schedules.{StepItem, Schedule}
use Rattle.schedule_model.specs.Limits.{steps_together}
use Rattle.script.specs.declared.keyword.Stage.{Stage}

-- which core steps there are so far, and for how many steps power stays on each time
pub record Timeline : Type 0 where
  pub items : List StepItem
  pub on_times : List ℕ

-- core steps, and failures that may come
abbrev pub event_count : Timeline → ℕ
event_count t = steps_together t.items + length t.on_times

-- what the lines so far give
pub record Parts : Type 0 where
  pub last : Option Stage  -- of the last line
  pub cores_line : ℕ  -- the number of the `cores` line
  pub set : TaskSet
  pub timeline : Timeline

abbrev pub no_events : Timeline
no_events = record { items = []; on_times = [] }

abbrev pub no_set : TaskSet
no_set = record { format = 0; cores = 0; memory = 0; records = 0; objects = []; programs = []; tasks = [] }

-- before the first line
abbrev pub nothing : Parts
nothing = record { last = None; cores_line = 0; set = no_set; timeline = no_events }

-- a whole script
pub record Script : Type 0 where
  pub set : TaskSet
  pub schedule : Schedule
  pub cores_line : ℕ

abbrev pub script_of : Parts → Script
script_of p = record {
  set = p.set;
  schedule = record { cores = p.set.cores; items = p.timeline.items; on_times = p.timeline.on_times };
  cores_line = p.cores_line;
}
