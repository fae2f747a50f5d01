use Rattle.kernel_model.proofs.LaterLaws.{later-apart}
use Rattle.kernel_model.proofs.attempts.later_finishes_touch_nothing.Goals as goal

pub returns : goal.returns
returns c = λ whole base i history h. later-apart whole base i history h
