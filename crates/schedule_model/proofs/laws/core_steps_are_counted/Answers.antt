use Rattle.schedule_model.proofs.StepLaws.{length-core_steps}
use Rattle.schedule_model.proofs.laws.core_steps_are_counted.Goals as goal

pub returns : goal.returns
returns c = length-core_steps
