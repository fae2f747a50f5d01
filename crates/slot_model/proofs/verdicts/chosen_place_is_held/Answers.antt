use Rattle.slot_model.proofs.CodeSide.{place_held}
use Rattle.slot_model.proofs.verdicts.chosen_place_is_held.Goals as goal

pub returns : goal.returns
returns c = λ hi chain p e. place_held hi chain p e
