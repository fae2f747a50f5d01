use Rattle.slot_model.proofs.CodeSide.{target_listed}
use Rattle.slot_model.proofs.slots.words_are_listed.Goals as goal

pub returns : goal.returns
returns c = λ sizes ws made r. target_listed sizes ws made r
