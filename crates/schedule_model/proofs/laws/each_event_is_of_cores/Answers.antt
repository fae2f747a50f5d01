use Rattle.schedule_model.proofs.FailureLaws.{event_of_cores}
use Rattle.schedule_model.proofs.laws.each_event_is_of_cores.Goals as goal

pub returns : goal.returns
returns c = event_of_cores
