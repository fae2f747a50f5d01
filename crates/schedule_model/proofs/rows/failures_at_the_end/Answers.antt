use Rattle.std.proofs.Common.{refl}
use Rattle.schedule_model.specs.Failures.{with_failures}
use Rattle.schedule_model.proofs.rows.failures_at_the_end.Goals as goal

pub returns : goal.returns
unfolding with_failures
returns c = ((refl, refl, refl), (refl, refl))
