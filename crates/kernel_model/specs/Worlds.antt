-- What stays while cores step and power fails: this project's own.
use Rattle.kernel_model.specs.Runs.{TaskMachine}
use Rattle.kernel_model.specs.Replay.{DeviceState}
use Rattle.kernel_model.specs.Sizes.{Sizes}

-- the machine of the tasks, the numbers of the set and of its device, and the state that the history begins from
pub record World (M : Type 0) : Type 0 where
  pub steps : TaskMachine M
  pub sizes : Sizes
  pub base : DeviceState
