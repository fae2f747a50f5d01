use Rattle.ver_table.proofs.ChainsTabled.{installed_is}
use Rattle.ver_table.proofs.tabled.installed_is_place.Goals as goal

pub returns : goal.returns
returns c = installed_is
