use Rattle.kernel_model.proofs.FirstEvents.{lost_within}
use Rattle.kernel_model.proofs.event_by_event.lost_call_leaves.Goals as goal

pub returns : goal.returns
returns g c = λ world s events n k l m. lost_within world s events n k l m
