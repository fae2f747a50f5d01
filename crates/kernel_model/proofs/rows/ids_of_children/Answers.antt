use Rattle.std.proofs.Common.{refl}
use Rattle.kernel_model.proofs.rows.ids_of_children.Goals as goal

pub returns : goal.returns
returns c = ((refl, refl), refl)
