use Rattle.ver_table.proofs.ChainsTabled.{chain_is}
use Rattle.ver_table.proofs.tabled.object_is_tabled.Goals as goal

pub returns : goal.returns
returns c = chain_is
