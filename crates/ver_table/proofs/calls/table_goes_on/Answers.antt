use Rattle.ver_table.proofs.GoesOn.{call_goes_on}
use Rattle.ver_table.proofs.calls.table_goes_on.Goals as goal

pub returns : goal.returns
returns c = call_goes_on
