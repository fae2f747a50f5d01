use Rattle.kernel_model.proofs.EntryHistory.{one_history}
use Rattle.kernel_model.proofs.entries.entries_have_one_history.Goals as goal

pub returns : goal.returns
returns c = λ whole base entries f g s t. one_history whole base entries f g s t
