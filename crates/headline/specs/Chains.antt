-- Runs one after another, each on what the one before it left, are one history. This project's own.
use Rattle.std.specs.Prelude.{◌≡◌, List, ◌++◌}
use Rattle.kernel_model.specs.Runs.{whole_run}
use Rattle.kernel_model.specs.Items.{Entry, listing}
use Rattle.kernel_model.specs.Replay.{DeviceState}
use Rattle.kernel_model.specs.Serial.{Serial}
use Rattle.kernel_model.specs.Events.{Event}
use Rattle.kernel_model.specs.Durable.{Durable, listed}
use Rattle.set_model.specs.Sets.{TaskSet}
use Rattle.task_model.specs.TaskSteps.{task_steps}
use Rattle.headline.specs.Runs.{Origin, after, durable_after, state_read}

-- entries are serial from a state to a state, run by the tasks of a set
abbrev pub IsSerial : TaskSet → DeviceState → List Entry → DeviceState → Type 0
IsSerial set = Serial (whole_run (task_steps set))

-- whatever entries left the base of a run: with those that it lists they are serial, from where they began
abbrev pub GoesOn : Origin → List Event → Type 0
GoesOn o events =
    (first : DeviceState) (entries : List Entry) → IsSerial o.device.set first entries o.base
    → IsSerial o.device.set first (entries ++ listing (listed (after o events))) (state_read o events)

-- what a run begins with
abbrev pub begun_with : Origin → Durable
begun_with o = record { state = o.base; last = o.last; boots = o.boots }

-- a run of the same set begins with what another has left
pub record Follows (o : Origin) (events : List Event) (p : Origin) : Type 0 where
  pub set : p.device.set ≡ o.device.set
  pub left : begun_with p ≡ durable_after o events
