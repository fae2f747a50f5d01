use Rattle.slot_model.proofs.RunStands.{first_stands}
use Rattle.slot_model.proofs.runs.first_state_stands.Goals as goal

pub returns : goal.returns
returns g c = λ sizes base cores power boots named image sized h. first_stands _ sizes base cores power boots named image sized h
