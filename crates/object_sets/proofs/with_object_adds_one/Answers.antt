use Rattle.object_sets.proofs.Insertion.{is_among-with_object}
use Rattle.object_sets.proofs.with_object_adds_one.Goals as goal

pub returns : goal.returns
returns c = is_among-with_object
