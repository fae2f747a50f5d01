use Rattle.ver_table.proofs.ChainsTabled.{reopened_is}
use Rattle.ver_table.proofs.tabled.opened_is_reopened.Goals as goal

pub returns : goal.returns
returns c = reopened_is
