use Rattle.std.proofs.Common.{refl}
use Rattle.kernel_model.proofs.rows.several_cores.Goals as goal

pub returns : goal.returns
returns c = ((refl, refl, refl, refl), (refl, refl), (refl, refl, refl), (refl, refl), (refl, refl, refl))
