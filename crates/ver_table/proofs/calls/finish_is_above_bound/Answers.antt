use Rattle.ver_table.proofs.GoesOn.{call_above_bound}
use Rattle.ver_table.proofs.calls.finish_is_above_bound.Goals as goal

pub returns : goal.returns
returns c = call_above_bound
