use Rattle.ver_table.proofs.ChainsTabled.{slots_changed, slots_opened}
use Rattle.ver_table.proofs.tabled.slots_stay.Goals as goal

pub returns : goal.returns
returns c = record { opened = slots_opened; changed = slots_changed }
