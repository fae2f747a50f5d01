use Rattle.task_image.proofs.Whole.{refusal_is_local}
use Rattle.task_image.proofs.laws.refusal_is_local.Goals as goal

pub returns : goal.returns
returns c = refusal_is_local
