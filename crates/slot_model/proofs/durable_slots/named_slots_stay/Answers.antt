use Rattle.slot_model.proofs.Flips.{named_stays}
use Rattle.slot_model.proofs.durable_slots.named_slots_stay.Goals as goal

pub returns : goal.returns
returns g c = λ m e o h f. named_stays m.world m.state m.kept e o h f
