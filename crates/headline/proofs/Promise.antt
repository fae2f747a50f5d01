-- The laws of the model, at a run from an origin.
use Rattle.std.proofs.Common.{List, length}
use Rattle.rv_core.specs.State.{MachineState}
use Rattle.kernel_model.specs.Events.{Event}
use Rattle.kernel_model.specs.Fit.{HasIds, IsSetUp}
use Rattle.kernel_model.specs.Execution.{Execution}
use Rattle.headline.specs.Runs.{Origin, world_from}

abbrev pub execution_of : (o : Origin) (events : List Event) → IsSetUp (world_from o) → HasIds o.base (length events) → Execution MachineState
execution_of o events up ids = record {
  world = world_from o;
  cores = o.device.set.cores;
  power = o.power;
  boots = o.boots;
  events = events;
  set_up = up;
  ids = ids;
}
