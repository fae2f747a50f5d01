-- The state that a format leaves. This project's own.
use Rattle.std.specs.Prelude.{◌+◌, length, map}
use Rattle.kernel_model.specs.Replay.{DeviceState}
use Rattle.kernel_model.specs.OpenTasks.{children}
use Rattle.set_model.specs.Sets.{TaskSet}

abbrev pub formatted : TaskSet → DeviceState
formatted set = record {
  objects = map (λ o. o.first) set.objects;
  tasks = children 1 set.tasks;
  clock = 0;
  number = 0;
  next = length set.tasks + 1;
}
