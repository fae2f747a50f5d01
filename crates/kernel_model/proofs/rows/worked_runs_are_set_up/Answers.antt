use Rattle.kernel_model.proofs.WorkedLaws.{set_up-adding, set_up-copy_and_put, set_up-resumed_later}
use Rattle.kernel_model.proofs.rows.worked_runs_are_set_up.Goals as goal

pub returns : goal.returns
returns c = (set_up-adding, set_up-copy_and_put, set_up-resumed_later)
