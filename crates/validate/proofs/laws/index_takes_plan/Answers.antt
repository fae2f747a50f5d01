use Rattle.validate.proofs.TablesLaws.{plan_is}
use Rattle.validate.proofs.laws.index_takes_plan.Goals as goal

pub returns : goal.returns
returns c = plan_is
