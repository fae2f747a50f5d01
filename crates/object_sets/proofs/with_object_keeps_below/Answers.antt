use Rattle.std.proofs.Common.{◌<◌}
use Rattle.object_sets.proofs.Insertion.{with_object-all}
use Rattle.object_sets.proofs.with_object_keeps_below.Goals as goal

pub returns : goal.returns
returns c = λ n o xs h k. with_object-all (λ x. x < n) o xs h k
