use Rattle.slot_model.proofs.CodeSide.{callers_views}
use Rattle.slot_model.proofs.calls.views_of_other_callers.Goals as goal

pub returns : goal.returns
returns c = λ base history pins views marks n h. callers_views base history pins views marks n h
