use Rattle.std.proofs.Common.{refl}
use Rattle.kernel_model.proofs.rows.smallest_run.Goals as goal

pub returns : goal.returns
returns c = (refl, refl)
