use Rattle.slot_model.proofs.Reading.{tables_finish}
use Rattle.slot_model.proofs.verdicts.finish_changes_tables.Goals as goal

pub returns : goal.returns
returns g c = λ m t n left i h at p. tables_finish m.world m.floor m.state m.kept t n left i h at p
