use Rattle.kernel_model.proofs.Found.{programs_of_set}
use Rattle.kernel_model.proofs.machine.open_task_has_program.Goals as goal

pub returns : goal.returns
returns g c = λ world s set_up h. programs_of_set world set_up s.history h.history
