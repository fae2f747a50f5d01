use Rattle.kernel_model.proofs.ReadLaws.{chosen-place}
use Rattle.kernel_model.proofs.tables.read_leaves_place.Goals as goal

pub returns : goal.returns
returns c = λ base history o i v n ne e. chosen-place base history o i v n ne e
