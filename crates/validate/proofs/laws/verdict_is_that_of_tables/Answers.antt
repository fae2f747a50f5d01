use Rattle.validate.proofs.TablesLaws.{verdict_is}
use Rattle.validate.proofs.laws.verdict_is_that_of_tables.Goals as goal

pub returns : goal.returns
returns c = verdict_is
