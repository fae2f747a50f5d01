use Rattle.kernel_model.proofs.LiveMore.{finish_unmet}
use Rattle.kernel_model.proofs.calls.lone_finish_is_unmet.Goals as goal

pub returns : goal.returns
returns c = λ sizes base s n m run device ok alone h r. finish_unmet sizes ok base s n m run device alone h r
