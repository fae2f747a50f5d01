use Rattle.device_model.proofs.Writes.{image_by_place}
use Rattle.device_model.proofs.ranges.image_is_by_place.Goals as goal

pub returns : goal.returns
returns g = image_by_place
