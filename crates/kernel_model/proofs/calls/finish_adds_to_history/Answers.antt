use Rattle.kernel_model.proofs.LiveNeeded.{finish_history}
use Rattle.kernel_model.proofs.calls.finish_adds_to_history.Goals as goal

pub returns : goal.returns
returns c = finish_history
