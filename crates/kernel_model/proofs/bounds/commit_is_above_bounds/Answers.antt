use Rattle.kernel_model.proofs.BoundLaws.{commit_above}
use Rattle.kernel_model.proofs.bounds.commit_is_above_bounds.Goals as goal

pub returns : goal.returns
returns g c = λ world s floor k left o i words h f e q. commit_above world s floor k left o i words h f e q
