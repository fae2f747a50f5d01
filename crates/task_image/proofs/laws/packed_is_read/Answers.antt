use Rattle.task_image.proofs.Whole.{packed_is_read}
use Rattle.task_image.proofs.laws.packed_is_read.Goals as goal

pub returns : goal.returns
returns c = packed_is_read
