use Rattle.task_image.proofs.Whole.{place_is_near}
use Rattle.task_image.proofs.laws.place_is_near.Goals as goal

pub returns : goal.returns
returns c = place_is_near
