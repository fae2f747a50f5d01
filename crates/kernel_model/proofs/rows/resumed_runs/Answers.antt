use Rattle.std.proofs.Common.{refl}
use Rattle.kernel_model.proofs.rows.resumed_runs.Goals as goal

pub returns : goal.returns
returns c = ((refl, refl), (refl, refl, refl), (refl, refl, refl, refl, refl))
