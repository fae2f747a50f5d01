use Rattle.kernel_model.proofs.LiveMore.{finish_records}
use Rattle.kernel_model.proofs.calls.finish_keeps_records.Goals as goal

pub returns : goal.returns
returns c = λ whole sizes base s n m run device old order h l r a. finish_records whole sizes base old order s h l r n m run a device
