use Rattle.slot_model.proofs.Arms.{target_free}
use Rattle.slot_model.proofs.slots.word_goes_to_place.Goals as goal

pub returns : goal.returns
returns g c = λ m n left made i t h at e. target_free m.world m.floor m.state m.kept m.image n i left made t h.lawful h.stands at e
