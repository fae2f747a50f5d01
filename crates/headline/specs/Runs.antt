-- A run of a task set's event machine, on a device that holds a state when the run begins. This project's own.
use Rattle.std.specs.Prelude.{ℕ, List, Option, None}
use Rattle.rv_core.specs.State.{MachineState}
use Rattle.kernel_model.specs.Items.{Entry}
use Rattle.kernel_model.specs.Replay.{DeviceState}
use Rattle.kernel_model.specs.Worlds.{World}
use Rattle.kernel_model.specs.Turns.{Line}
use Rattle.kernel_model.specs.Events.{Boot, Event, On, Power, State, lines_of, opened, state_after}
use Rattle.kernel_model.specs.Durable.{Durable, durable, listed, state_left, writes_after}
use Rattle.kernel_model.specs.Report.{report_lines}
use Rattle.set_model.specs.Formatted.{formatted}
use Rattle.device_model.specs.Layouts.{boot_turns_of}
use Rattle.device_model.specs.IndexWords.{base_of}
use Rattle.device_model.specs.Decoding.{Held}
use Rattle.device_model.specs.Counting.{sizes_on}
use Rattle.device_model.specs.Devices.{Device, layout_on}
use Rattle.task_model.specs.TaskSteps.{task_steps}

-- where a run begins: a device of a set, the state that it holds with its last finish and its boots, and whether its power is on or a boot begins
pub record Origin : Type 0 where
  pub device : Device
  pub base : DeviceState
  pub last : Option Entry
  pub boots : ℕ
  pub power : Power

-- a device that was just formatted, with its power on
abbrev pub formatted_origin : Device → Origin
formatted_origin d = record { device = d; base = formatted d.set; last = None; boots = 0; power = On }

-- a device that holds a state, before the first turn of a boot
abbrev pub booting_origin : Device → Held → Origin
booting_origin d h = record { device = d; base = base_of h.index h.objects; last = h.index.last; boots = h.boots; power = Boot (boot_turns_of (layout_on d)) }

-- what stays in the run: the tasks' machine, the numbers of the set on the device, and the base
abbrev pub world_from : Origin → World MachineState
world_from o = record { steps = task_steps o.device.set; sizes = sizes_on (layout_on o.device) o.device.set; base = o.base }

-- all cores idle
abbrev pub first_state : Origin → State MachineState
first_state o = opened o.device.set.cores o.power o.boots

-- the state after some events
abbrev pub after : Origin → List Event → State MachineState
after o events = state_after (world_from o) (first_state o) events

-- what they print
abbrev pub event_lines : Origin → List Event → List Line
event_lines o events = lines_of (world_from o) (first_state o) events

-- that, and then the finish that is durable and not told
abbrev pub all_lines : Origin → List Event → List Line
all_lines o events = report_lines (world_from o) (first_state o) events

-- what the device holds after some events, and its state
abbrev pub durable_after : Origin → List Event → Durable
durable_after o events = durable o.base o.last (after o events)

abbrev pub state_read : Origin → List Event → DeviceState
state_read o events = state_left o.base (listed (after o events))

-- how many device writes they make
abbrev pub writes_by : Origin → List Event → ℕ
writes_by o events = writes_after (world_from o) (first_state o) events
