use Rattle.validate.proofs.TablesLaws.{slot_is}
use Rattle.validate.proofs.laws.index_names_slots.Goals as goal

pub returns : goal.returns
returns c = slot_is
