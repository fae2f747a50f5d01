use Rattle.kernel_model.proofs.LiveLaws.{finish_keeps}
use Rattle.kernel_model.proofs.LiveNeeded.{finish_chain}
use Rattle.kernel_model.proofs.calls.finish_keeps_chain.Goals as goal

pub returns : goal.returns
returns c = λ whole sizes base s n m run device o chain frame old h own a c. finish_chain whole sizes base s h n m run device o chain (finish_keeps whole frame sizes base old s h n m own run a device).history c
