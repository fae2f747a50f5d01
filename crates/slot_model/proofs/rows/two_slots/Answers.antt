use Rattle.std.proofs.Common.{refl}
use Rattle.slot_model.proofs.rows.two_slots.Goals as goal

pub returns : goal.returns
returns c = (refl, refl, refl, refl)
