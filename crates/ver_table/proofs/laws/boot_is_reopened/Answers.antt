use Rattle.ver_table.proofs.StandLaws.{reopened}
use Rattle.ver_table.proofs.laws.boot_is_reopened.Goals as goal

pub returns : goal.returns
returns g c = reopened
