use Rattle.std.proofs.Common.{◌∙◌, ap}
use Rattle.kernel_model.specs.Cores.{all_but, is_task}
use Rattle.table_machine.specs.Tables.{Vacant}
use Rattle.table_machine.specs.Seats.{task_on}
use Rattle.core_seats.specs.Others.{tasks_in}
use Rattle.core_seats.proofs.Beside.{any_but, held_any, ready_same}
use Rattle.core_seats.proofs.laws.held_tasks_are_not_ready.Goals as goal

pub returns : goal.returns
returns c = λ seats after held n tasks h e.
    ready_same (all_but n held) (tasks_in seats) tasks (λ id. any_but (λ t. is_task (task_on t) id) held n Vacant (ap (λ k. is_task k id) e) ∙ held_any seats after held id h)
