use Rattle.ver_table.proofs.GoesOn.{above_bound}
use Rattle.ver_table.proofs.laws.finish_is_above_bound.Goals as goal

pub returns : goal.returns
returns g c = above_bound
