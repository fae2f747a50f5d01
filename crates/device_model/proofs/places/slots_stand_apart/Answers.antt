use Rattle.device_model.proofs.PlaceLaws.{slot_place-low, slot_place-high, slot_place-apart}
use Rattle.device_model.proofs.places.slots_stand_apart.Goals as goal

pub returns-clause-within : goal.returns-clause-within
returns-clause-within c = λ l set o slot i w. (slot_place-low l set o slot i, slot_place-high l set o slot i w.0 w.1 w.2)

pub returns-clause-apart : goal.returns-clause-apart
returns-clause-apart c = λ l set o p a b i j v w. slot_place-apart l set o p a b i j v.0 w.0 v.1 w.1 v.2 w.2
