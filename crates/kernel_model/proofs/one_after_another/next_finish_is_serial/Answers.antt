use Rattle.kernel_model.proofs.NextFinish.{next_serial}
use Rattle.kernel_model.proofs.one_after_another.next_finish_is_serial.Goals as goal

pub returns : goal.returns
returns c = λ whole base f entries i old s run n k p l. next_serial whole base f entries i old s run n k p l
