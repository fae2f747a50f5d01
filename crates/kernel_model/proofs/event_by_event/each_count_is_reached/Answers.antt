use Rattle.kernel_model.proofs.FirstEvents.{count_reached}
use Rattle.kernel_model.proofs.event_by_event.each_count_is_reached.Goals as goal

pub returns : goal.returns
returns g c = λ world s events k l. count_reached world events s k l
