use Rattle.kernel_model.proofs.NextFinish.{none_serial}
use Rattle.kernel_model.proofs.one_after_another.no_finish_is_serial.Goals as goal

pub returns : goal.returns
returns c = λ whole base o. none_serial whole base o
