use Rattle.slot_model.proofs.Going.{views_all}
use Rattle.slot_model.proofs.verdicts.views_of_others.Goals as goal

pub returns : goal.returns
returns g c = λ base history pins views cores n h. views_all base history pins views cores n h
