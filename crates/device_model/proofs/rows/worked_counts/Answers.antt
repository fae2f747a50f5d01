use Rattle.std.proofs.Common.{refl}
use Rattle.device_model.proofs.rows.worked_counts.Goals as goal

pub returns : goal.returns
returns c = ((refl, refl, refl), (refl, refl, refl))
