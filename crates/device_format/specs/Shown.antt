-- Of which device a table of places is. This project's own.
use Rattle.std.specs.Prelude.{◌≡◌, ◌≤◌, length}
use Rattle.set_model.specs.Sets.{TaskSet}
use Rattle.device_model.specs.Devices.{Device}
use Rattle.shadow_index.specs.declared.layout.Layout.{Layout}
use Rattle.shadow_index.specs.declared.state.State.{State}
use Rattle.shadow_index.specs.Views.{kind_of}
use Rattle.shadow_index.specs.Tells.{IsLayoutOf}

-- the device of a set that a table of places tells of
abbrev pub device_in : TaskSet → Layout → Device
device_in set places = record { kind = kind_of places.kind; set = set }

-- the table is one of this set
abbrev pub IsTable : TaskSet → Layout → Type 0
IsTable set places = IsLayoutOf (device_in set places) places

-- a state has a slot for each object of a set, and no more tasks than its records
pub record IsStateOf (set : TaskSet) (s : State) : Type 0 where
  pub slots : length s.slots.items ≡ length set.objects
  pub tasks : length s.tasks.items ≤ set.records
