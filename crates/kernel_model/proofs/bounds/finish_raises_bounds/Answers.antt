use Rattle.kernel_model.proofs.BoundLaws.{bound_raised}
use Rattle.kernel_model.proofs.bounds.finish_raises_bounds.Goals as goal

pub returns : goal.returns
returns c = λ floor o i history. bound_raised floor o i history
