use Rattle.slot_model.proofs.Going.{tables_on}
use Rattle.slot_model.proofs.verdicts.tables_go_on.Goals as goal

pub returns : goal.returns
returns g c = λ m t n h p. tables_on m.world m.floor m.state m.kept t n h p
