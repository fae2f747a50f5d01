use Rattle.ver_table.proofs.ChainsTabled.{opened_is}
use Rattle.ver_table.proofs.tabled.opened_is_one_version.Goals as goal

pub returns : goal.returns
returns c = opened_is
