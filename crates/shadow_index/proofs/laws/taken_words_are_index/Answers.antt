use Rattle.shadow_index.proofs.Taken.{taken_are_index}
use Rattle.shadow_index.proofs.laws.taken_words_are_index.Goals as goal

pub returns : goal.returns
returns c = taken_are_index
