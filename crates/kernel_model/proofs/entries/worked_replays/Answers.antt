use Rattle.std.proofs.Common.{refl}
use Rattle.kernel_model.proofs.entries.worked_replays.Goals as goal

pub returns : goal.returns
returns c = ((refl, refl), (refl, refl), refl, refl)
