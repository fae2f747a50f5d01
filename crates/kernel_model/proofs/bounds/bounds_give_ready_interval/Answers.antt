use Rattle.kernel_model.proofs.BoundLaws.{ready_interval}
use Rattle.kernel_model.proofs.bounds.bounds_give_ready_interval.Goals as goal

pub returns : goal.returns
returns g c = λ base s floor k a outcome f e. ready_interval base s floor k a outcome f e
