use Rattle.object_sets.proofs.Insertion.{with_object-increasing}
use Rattle.object_sets.proofs.with_object_keeps_increasing.Goals as goal

pub returns : goal.returns
returns c = with_object-increasing
