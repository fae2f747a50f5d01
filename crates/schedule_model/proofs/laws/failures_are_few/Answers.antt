use Rattle.schedule_model.proofs.FailureLaws.{count_few}
use Rattle.schedule_model.proofs.Reached.{none_left}
use Rattle.schedule_model.proofs.laws.failures_are_few.Goals as goal

pub returns-clause-none : goal.returns-clause-none
returns-clause-none c = none_left

pub returns-clause-few : goal.returns-clause-few
returns-clause-few c = count_few
