use Rattle.schedule_model.proofs.FailureLaws.{steps_kept}
use Rattle.schedule_model.proofs.laws.failures_keep_core_steps.Goals as goal

pub returns : goal.returns
returns c = steps_kept
