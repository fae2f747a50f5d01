use Rattle.kernel_model.proofs.ForCallers.{finish_leaves}
use Rattle.slot_model.proofs.calls.finish_leaves.Goals as goal

pub returns : goal.returns
returns c = λ m n k run device. finish_leaves m.sizes m.base m.state n k run device
