use Rattle.slot_model.proofs.SameWords.{same_stands}
use Rattle.slot_model.proofs.runs.same_words_stand.Goals as goal

pub returns : goal.returns
returns g c = λ m after h e f. same_stands m.world m.floor m.state m.kept m.image after h e f
