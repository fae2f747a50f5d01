use Rattle.slot_model.proofs.Copies.{copies_stay}
use Rattle.slot_model.proofs.slots.copies_stay.Goals as goal

pub returns : goal.returns
returns g c = λ m e k h. copies_stay m.world m.state e k h
