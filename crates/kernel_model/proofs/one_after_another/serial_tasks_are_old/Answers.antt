use Rattle.kernel_model.proofs.NextFinish.{serial_old}
use Rattle.kernel_model.proofs.one_after_another.serial_tasks_are_old.Goals as goal

pub returns : goal.returns
returns c = λ whole base f entries old s. serial_old whole base f entries old s
