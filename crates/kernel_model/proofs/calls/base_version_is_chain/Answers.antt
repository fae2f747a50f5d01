use Rattle.kernel_model.proofs.LiveNeeded.{base_chain}
use Rattle.kernel_model.proofs.calls.base_version_is_chain.Goals as goal

pub returns : goal.returns
returns c = λ base o needed. base_chain base o needed
