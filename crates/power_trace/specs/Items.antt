-- The items of a schedule in memory, as the definitions have them.
use Rattle.std.specs.Prelude.{ℕ, List, map}
use Rattle.schedule_model.specs.Schedules.{Schedule}
use Rattle.schedule_model.specs.Schedules as model
use Rattle.power_trace.specs.declared.items.StepItem.{StepItem}
use Rattle.power_trace.specs.declared.items.StepItem.TheVariants.{Steps, Mix}

abbrev pub item_of : StepItem → model.StepItem
item_of (Steps cores times) = model.Steps cores times
item_of (Mix seed count) = model.Mix seed count

-- a schedule of these items
abbrev pub schedule_of : ℕ → List StepItem → List ℕ → Schedule
schedule_of cores items on_times = record { cores = cores; items = map item_of items; on_times = on_times }
