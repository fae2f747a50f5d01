use Rattle.ver_table.proofs.FreePlaces.{free_is}
use Rattle.ver_table.proofs.tabled.free_slot_is_free_place.Goals as goal

pub returns : goal.returns
returns c = free_is
