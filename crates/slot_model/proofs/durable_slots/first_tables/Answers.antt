use Rattle.slot_model.proofs.Reading.{tables_first}
use Rattle.slot_model.proofs.durable_slots.first_tables.Goals as goal

pub returns : goal.returns
returns c = λ sizes base named. tables_first sizes base named
