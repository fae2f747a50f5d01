use Rattle.std.proofs.Common.{refl}
use Rattle.kernel_model.proofs.rows.commits_take_their_turns.Goals as goal

pub returns : goal.returns
returns c = (refl, refl, refl, refl, refl, refl)
