use Rattle.ver_table.proofs.PinStays.{pin_chosen}
use Rattle.ver_table.proofs.laws.chosen_version_is_pinned.Goals as goal

pub returns : goal.returns
returns c = pin_chosen
