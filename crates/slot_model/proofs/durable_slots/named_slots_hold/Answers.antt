use Rattle.slot_model.proofs.Named.{named_holds}
use Rattle.slot_model.proofs.durable_slots.named_slots_hold.Goals as goal

pub returns : goal.returns
returns g c = λ m o h l. named_holds m.world m.floor m.state m.kept m.image h.lawful h.stands o l
