use Rattle.slot_model.proofs.RunStands.{run_lawful}
use Rattle.slot_model.proofs.runs.run_is_lawful.Goals as goal

pub returns : goal.returns
returns g c = λ x n. run_lawful x n
