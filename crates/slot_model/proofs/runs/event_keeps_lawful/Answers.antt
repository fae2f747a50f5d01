use Rattle.slot_model.proofs.Going.{lawful_next}
use Rattle.slot_model.proofs.runs.event_keeps_lawful.Goals as goal

pub returns : goal.returns
returns g c = λ m e h l. lawful_next m.world m.state e h l
