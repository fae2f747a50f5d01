use Rattle.kernel_model.proofs.BoundLaws.{bound_next}
use Rattle.kernel_model.proofs.bounds.bound_goes_on.Goals as goal

pub returns : goal.returns
returns g c = λ world s floor o e. bound_next world s floor o e
