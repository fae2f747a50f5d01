use Rattle.kernel_model.proofs.EntrySteps.{one_leaves}
use Rattle.kernel_model.proofs.entries.replay_leaves_one_state.Goals as goal

pub returns : goal.returns
returns c = λ base entries reruns f g h k. one_leaves base entries reruns f g h k
