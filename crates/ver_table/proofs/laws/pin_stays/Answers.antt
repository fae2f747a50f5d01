use Rattle.ver_table.proofs.PinStays.{pin_kept}
use Rattle.ver_table.proofs.laws.pin_stays.Goals as goal

pub returns : goal.returns
returns g c = pin_kept
