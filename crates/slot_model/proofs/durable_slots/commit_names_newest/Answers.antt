use Rattle.slot_model.proofs.Flips.{commit_names}
use Rattle.slot_model.proofs.durable_slots.commit_names_newest.Goals as goal

pub returns : goal.returns
returns g c = λ m n left o i h e. commit_names m.world m.state m.kept n left o i h e
