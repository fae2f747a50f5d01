use Rattle.kernel_model.proofs.FirstEvents.{first_told}
use Rattle.kernel_model.proofs.event_by_event.first_lines_tell_listing.Goals as goal

pub returns : goal.returns
returns g c = λ x n. first_told x n
