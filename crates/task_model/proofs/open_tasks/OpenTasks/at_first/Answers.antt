use Rattle.std.proofs.Common.{◌∙◌, ap, arith}
use Rattle.kernel_model.specs.Replay.{task_under, with_children}
use Rattle.set_model.specs.Formatted.{formatted}
use Rattle.task_model.specs.Tables.{open_under}
use Rattle.task_model.proofs.OpenFacts.{first_listed}
use Rattle.task_model.proofs.TableTurns.{list_of_set, same_of_set}
use Rattle.task_model.proofs.open_tasks.OpenTasks.at_first.Goals as goal

pub returns-clause-tasks : goal.returns-clause-tasks
returns-clause-tasks c = λ id.
    c.in_ok-join.ensures id ∙ ap (λ ts. with_children 1 ts (open_under (record { tasks = c.new.result })) id) c.tasks.ensures.exact
    ∙ first_listed c.new.result.entries c.args.set.now.tasks c.new.ensures.empty (omega (arith, c.tasks.ensures.few, c.tasks.ensures.number)) id

pub returns-clause-programs : goal.returns-clause-programs
returns-clause-programs c =
    same_of_set c.args.set.now (task_under (formatted c.args.set.now).tasks) (open_under c.join.new.self) (returns-clause-tasks c)
    (list_of_set c.args.set.now (formatted c.args.set.now).tasks (c.formatted_state_is_fit.ensures c.args.set.now c.tasks.ensures.limits).programs)
