use Rattle.kernel_model.proofs.LiveNeeded.{fetch_chain}
use Rattle.kernel_model.proofs.calls.fetch_keeps_chain.Goals as goal

pub returns : goal.returns
returns c = λ whole base s n m p device o chain h own c. fetch_chain whole base s h n m own p device o chain c
