use Rattle.slot_model.proofs.EventLaws.{event_stands}
use Rattle.kernel_model.specs.Events.{Fail}
use Rattle.slot_model.proofs.events.failure_keeps.Goals as goal

pub returns : goal.returns
returns g c = λ m h. event_stands m.world m.floor m.state m.kept m.image Fail h.lawful h.stands
