use Rattle.kernel_model.proofs.FirstEvents.{lines_first, lines_length}
use Rattle.kernel_model.proofs.event_by_event.first_lines.Goals as goal

pub returns : goal.returns
returns g c = λ world s events n. (lines_first world s events n, lines_length world s events)
