use Rattle.slot_model.proofs.Flips.{named_turns}
use Rattle.slot_model.proofs.durable_slots.last_write_names_plan.Goals as goal

pub returns : goal.returns
returns g c = λ m e i o h f. named_turns m.world m.state m.kept e i o h f
