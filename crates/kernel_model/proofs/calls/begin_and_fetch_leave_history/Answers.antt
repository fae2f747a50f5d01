use Rattle.kernel_model.proofs.LiveMore.{begin_history, fetch_history}
use Rattle.kernel_model.proofs.calls.begin_and_fetch_leave_history.Goals as goal

pub returns : goal.returns
returns c = λ base s n m o device. (begin_history base s n, fetch_history base s n m o device)
