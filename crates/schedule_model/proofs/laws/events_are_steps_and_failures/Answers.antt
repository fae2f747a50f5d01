use Rattle.schedule_model.proofs.FailureLaws.{length_events}
use Rattle.schedule_model.proofs.laws.events_are_steps_and_failures.Goals as goal

pub returns : goal.returns
returns c = length_events
