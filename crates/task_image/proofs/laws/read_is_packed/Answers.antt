use Rattle.task_image.proofs.Whole.{read_is_packed}
use Rattle.task_image.proofs.laws.read_is_packed.Goals as goal

pub returns : goal.returns
returns c = read_is_packed
