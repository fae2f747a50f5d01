use Rattle.validate.proofs.TablesLaws.{sizes_are}
use Rattle.validate.proofs.laws.sizes_are_those_of_set.Goals as goal

pub returns : goal.returns
returns c = sizes_are
