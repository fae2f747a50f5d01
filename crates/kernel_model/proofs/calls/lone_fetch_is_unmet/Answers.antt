use Rattle.kernel_model.proofs.LiveMore.{fetch_no_end, fetch_unmet}
use Rattle.kernel_model.proofs.calls.lone_fetch_is_unmet.Goals as goal

pub returns : goal.returns
returns c = λ base s n m o device l own h. (fetch_unmet base s n m o device h, fetch_no_end base s n m o device l own h)
