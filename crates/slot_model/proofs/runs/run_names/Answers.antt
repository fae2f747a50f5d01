use Rattle.slot_model.proofs.Keeping.{run_named}
use Rattle.slot_model.proofs.runs.run_names.Goals as goal

pub returns : goal.returns
returns g c = λ x n first o f l. run_named x n first f o l
