use Rattle.kernel_model.proofs.FirstEvents.{one_more}
use Rattle.kernel_model.proofs.event_by_event.one_event_more.Goals as goal

pub returns : goal.returns
returns g c = λ world s events n e h. one_more world s events n e h
