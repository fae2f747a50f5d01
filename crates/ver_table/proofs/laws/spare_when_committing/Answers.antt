use Rattle.ver_table.proofs.SpareLaws.{spare_committing}
use Rattle.ver_table.proofs.laws.spare_when_committing.Goals as goal

pub returns : goal.returns
returns g c = spare_committing
