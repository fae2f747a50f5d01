use Rattle.kernel_model.proofs.LiveMore.{attempt_far}
use Rattle.kernel_model.proofs.attempts.attempt_goes_far.Goals as goal

pub returns : goal.returns
returns c = λ whole base newer history task start reads rest n ne a. attempt_far whole base newer history n task start reads rest ne a
