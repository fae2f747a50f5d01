use Rattle.kernel_model.proofs.FirstEvents.{writes_grow, writes_within}
use Rattle.kernel_model.proofs.event_by_event.writes_only_grow.Goals as goal

pub returns : goal.returns
returns g c = λ world s events m. ((λ n l. writes_grow world s events m n l), writes_within world s events m)
