use Rattle.device_model.proofs.PlaceLaws.{copy_place-low, copy_place-high, copy_place-apart, index_place-apart}
use Rattle.device_model.proofs.places.pages_stand_apart.Goals as goal

pub returns-clause-within : goal.returns-clause-within
returns-clause-within c = λ l page copy i a b d. (copy_place-low l page copy i, copy_place-high l page copy i a b d)

pub returns-clause-apart : goal.returns-clause-apart
returns-clause-apart c = copy_place-apart

pub returns-clause-index : goal.returns-clause-index
returns-clause-index c = index_place-apart
