use Rattle.kernel_model.proofs.LiveNeeded.{begin_chain}
use Rattle.kernel_model.proofs.calls.begin_keeps_chain.Goals as goal

pub returns : goal.returns
returns c = λ whole base s n o chain h c. begin_chain whole base s h n o chain c
