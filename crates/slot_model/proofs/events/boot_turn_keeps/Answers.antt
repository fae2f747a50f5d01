use Rattle.slot_model.proofs.Arms.{boot_stands}
use Rattle.slot_model.proofs.events.boot_turn_keeps.Goals as goal

pub returns : goal.returns
returns g c = λ m n left h off. boot_stands m.world m.floor m.state m.kept m.image n left h.lawful h.stands off
