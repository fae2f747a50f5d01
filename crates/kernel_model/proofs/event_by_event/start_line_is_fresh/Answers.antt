use Rattle.kernel_model.proofs.FirstEvents.{fresh_at}
use Rattle.kernel_model.proofs.event_by_event.start_line_is_fresh.Goals as goal

pub returns : goal.returns
returns g c = λ x n core task at h. fresh_at x n core task at h
