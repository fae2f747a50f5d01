use Rattle.kernel_model.proofs.OneState.{same_tasks}
use Rattle.kernel_model.proofs.entries.ids_tell_tasks.Goals as goal

pub returns : goal.returns
returns c = λ tasks others h k e. same_tasks tasks others h k e
