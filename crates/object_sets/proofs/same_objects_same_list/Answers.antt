use Rattle.object_sets.proofs.Spelling.{same_objects}
use Rattle.object_sets.proofs.same_objects_same_list.Goals as goal

pub returns : goal.returns
returns c = same_objects
