use Rattle.slot_model.proofs.EventLaws.{event_stands}
use Rattle.slot_model.proofs.events.event_keeps.Goals as goal

pub returns : goal.returns
returns g c = λ m e h. event_stands m.world m.floor m.state m.kept m.image e h.lawful h.stands
