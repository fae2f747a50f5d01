use Rattle.kernel_model.proofs.BoundLaws.{bound_at_clock}
use Rattle.kernel_model.proofs.bounds.bound_begins_at_clock.Goals as goal

pub returns : goal.returns
returns c = λ base history o. bound_at_clock base history o
