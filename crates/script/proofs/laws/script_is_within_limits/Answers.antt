use Rattle.script.proofs.Whole.{read_within}
use Rattle.script.proofs.laws.script_is_within_limits.Goals as goal

pub returns : goal.returns
returns c = λ bytes script h. read_within c.words_are_few.ensures bytes script h
