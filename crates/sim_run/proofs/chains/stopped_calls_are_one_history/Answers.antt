use Rattle.sim_run.proofs.StoppedChains.{any, told}
use Rattle.sim_run.proofs.chains.stopped_calls_are_one_history.Goals as goal

pub returns-clause-any : goal.returns-clause-any
returns-clause-any c = any c.runs_are_one_history.ensures.together c.tasks_are_a_machine.ensures

pub returns-clause-told : goal.returns-clause-told
returns-clause-told c = told c.runs_are_one_history.ensures.together c.tasks_are_a_machine.ensures
