use Rattle.kernel_model.proofs.FloorLaws.{live_counts}
use Rattle.kernel_model.proofs.calls.chain_counts_for_calls.Goals as goal

pub returns : goal.returns
returns c = λ whole base s o n chain h k. live_counts whole base s h o n chain k
