use Rattle.slot_model.proofs.RunStands.{run_stands}
use Rattle.slot_model.proofs.runs.run_keeps.Goals as goal

pub returns : goal.returns
returns g c = λ x n b f. run_stands x n b f
