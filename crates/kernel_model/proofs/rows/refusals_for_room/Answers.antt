use Rattle.std.proofs.Common.{refl}
use Rattle.kernel_model.proofs.rows.refusals_for_room.Goals as goal

pub returns : goal.returns
returns c = ((refl, refl), (refl, refl, refl), (refl, refl))
