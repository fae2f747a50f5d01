use Rattle.kernel_model.proofs.LiveMore.{begun_mark}
use Rattle.kernel_model.proofs.calls.begun_task_is_open.Goals as goal

pub returns : goal.returns
returns c = λ base s n t l e. begun_mark base s n l t e
