use Rattle.ver_table.proofs.ChainsTabled.{all_are_touched}
use Rattle.ver_table.proofs.tabled.finish_touches_table.Goals as goal

pub returns : goal.returns
returns c = all_are_touched
