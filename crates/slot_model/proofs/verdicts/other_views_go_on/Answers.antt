use Rattle.slot_model.proofs.Going.{others_on}
use Rattle.slot_model.proofs.verdicts.other_views_go_on.Goals as goal

pub returns : goal.returns
returns g c = λ m n k h ne. others_on m.world m.state m.kept n k h ne
