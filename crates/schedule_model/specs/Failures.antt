-- The events of a schedule: its core steps, and the failures of power among them. This project's own.
use Rattle.std.specs.Prelude.{ℕ, nat_le, if◌then◌else◌, List, [], ◌∷◌, ◌++◌, map, take, drop, length}
use Rattle.kernel_model.specs.Events.{Event, CoreStep, Fail}
use Rattle.schedule_model.specs.Schedules.{Schedule}
use Rattle.schedule_model.specs.CoreSteps.{core_steps}

-- Power fails after the first on-time's number of steps, then after the second on-time's further
-- steps, and so on. It fails as well where an on-time ends with the last step. An on-time that
-- ends after the last step is not used, and none behind it.
unfoldable pub with_failures : List ℕ → List ℕ → List Event
with_failures [] steps = map CoreStep steps
with_failures (on ∷ on_times) steps =
    if nat_le on (length steps)
    then map CoreStep (take on steps) ++ Fail ∷ with_failures on_times (drop on steps)
    else map CoreStep steps

-- the events of a schedule, in order
abbrev pub events_of : Schedule → List Event
events_of s = with_failures s.on_times (core_steps s.cores s.items)
