use Rattle.task_model.proofs.StepFacts.{registers_name_call}
use Rattle.task_model.proofs.laws.registers_name_call.Goals as goal

pub returns : goal.returns
returns c = registers_name_call
