use Rattle.kernel_model.proofs.WorkedLaws.{toy_machine}
use Rattle.kernel_model.proofs.rows.worked_tasks_are_machine.Goals as goal

pub returns : goal.returns
returns c = λ sizes program. toy_machine sizes program
