use Rattle.slot_model.proofs.Going.{lawful_from}
use Rattle.slot_model.proofs.runs.sound_state_is_lawful.Goals as goal

pub returns : goal.returns
returns g c = λ world s u h l. lawful_from world s u h l
