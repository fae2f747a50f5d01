use Rattle.std.proofs.Common.{add-one}
use Rattle.schedule_model.proofs.FailureLaws.{in_reach}
use Rattle.schedule_model.proofs.laws.failures_are_on_times_in_reach.Goals as goal

pub returns : goal.returns
returns c = λ on_times steps k h. rw (add-one k) (in_reach on_times steps k h)
