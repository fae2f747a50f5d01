use Rattle.slot_model.proofs.Arms.{calm_stands}
use Rattle.slot_model.proofs.events.calm_turn_keeps.Goals as goal

pub returns : goal.returns
returns g c = λ m n c d h on at turn calm. calm_stands m.world m.floor m.state m.kept m.image n c d h.lawful h.stands on at turn calm
