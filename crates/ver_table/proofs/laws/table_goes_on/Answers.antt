use Rattle.ver_table.proofs.GoesOn.{goes_on}
use Rattle.ver_table.proofs.laws.table_goes_on.Goals as goal

pub returns : goal.returns
returns g c = goes_on
