use Rattle.task_model.proofs.MachineFacts.{tasks_are_a_machine}
use Rattle.task_model.proofs.laws.tasks_are_a_machine.Goals as goal

pub returns : goal.returns
returns c = tasks_are_a_machine
