use Rattle.task_image.proofs.Whole.{none_begins_another}
use Rattle.task_image.proofs.laws.none_begins_another.Goals as goal

pub returns : goal.returns
returns c = none_begins_another
