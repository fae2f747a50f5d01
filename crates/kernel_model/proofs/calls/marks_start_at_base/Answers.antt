use Rattle.kernel_model.proofs.FloorLaws.{marks_start}
use Rattle.kernel_model.proofs.calls.marks_start_at_base.Goals as goal

pub returns : goal.returns
returns c = λ whole base s k h. marks_start whole base s h k
