use Rattle.kernel_model.proofs.BoundLaws.{bounds_interval}
use Rattle.kernel_model.proofs.bounds.bounds_give_interval.Goals as goal

pub returns : goal.returns
returns c = λ base history floor start reads run l. bounds_interval base history floor start reads run l
