use Rattle.std.proofs.Common.{refl}
use Rattle.slot_model.proofs.rows.doomed_copy_in_slots.Goals as goal

pub returns : goal.returns
returns c = (refl, refl, refl, refl, refl, refl, refl)
