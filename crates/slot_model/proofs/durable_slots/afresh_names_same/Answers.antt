use Rattle.slot_model.proofs.Fresh.{boot_idle}
use Rattle.slot_model.proofs.CodeSide.{afresh_named}
use Rattle.slot_model.proofs.durable_slots.afresh_names_same.Goals as goal

pub returns : goal.returns
returns g c = λ m left clock o h off. afresh_named m.state m.kept clock o (boot_idle m.world m.state left h off)
