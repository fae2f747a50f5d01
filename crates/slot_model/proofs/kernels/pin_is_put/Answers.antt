use Rattle.slot_model.proofs.Keeping.{pin_put}
use Rattle.slot_model.proofs.kernels.pin_is_put.Goals as goal

pub returns : goal.returns
returns c = λ n x pins. pin_put n x pins
