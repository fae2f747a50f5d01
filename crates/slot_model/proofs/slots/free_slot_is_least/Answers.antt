use Rattle.slot_model.proofs.Rooms.{free_least}
use Rattle.slot_model.proofs.slots.free_slot_is_least.Goals as goal

pub returns : goal.returns
returns g c = λ sizes base history others kept o k e. free_least sizes base history others kept o k e
