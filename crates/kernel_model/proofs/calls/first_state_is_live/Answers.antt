use Rattle.kernel_model.proofs.LiveMore.{first_live}
use Rattle.kernel_model.proofs.calls.first_state_is_live.Goals as goal

pub returns : goal.returns
returns c = λ whole base callers limit. first_live whole base callers limit
