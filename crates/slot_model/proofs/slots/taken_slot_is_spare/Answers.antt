use Rattle.slot_model.proofs.Arms.{taken_free}
use Rattle.slot_model.proofs.slots.taken_slot_is_spare.Goals as goal

pub returns : goal.returns
returns g c = λ m n left i h at. taken_free m.world m.floor m.state m.kept m.image n i left h.lawful h.stands at
