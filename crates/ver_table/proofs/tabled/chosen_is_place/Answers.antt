use Rattle.ver_table.proofs.ChainsTabled.{chosen_is}
use Rattle.ver_table.proofs.tabled.chosen_is_place.Goals as goal

pub returns : goal.returns
returns c = λ hi x. chosen_is hi x.stored
