use Rattle.ver_table.proofs.ChainsTabled.{other_is, read_is, written_is}
use Rattle.ver_table.proofs.tabled.finish_touches_object.Goals as goal

pub returns : goal.returns
returns c = record { writes = written_is; reads = read_is; neither = other_is }
