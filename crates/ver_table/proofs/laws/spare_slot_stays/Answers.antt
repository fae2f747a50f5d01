use Rattle.ver_table.proofs.SpareLaws.{spare_kept}
use Rattle.ver_table.proofs.laws.spare_slot_stays.Goals as goal

pub returns : goal.returns
returns g c = spare_kept
