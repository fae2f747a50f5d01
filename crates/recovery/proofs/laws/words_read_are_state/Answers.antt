use Rattle.recovery.proofs.WholeRead.{held, state_read}
use Rattle.recovery.proofs.laws.words_read_are_state.Goals as goal

pub returns : goal.returns
returns c = λ d words r into h e. (held d words r into h e, state_read d words r into h e)
