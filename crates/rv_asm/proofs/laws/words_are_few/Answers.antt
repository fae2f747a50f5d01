use Rattle.rv_asm.proofs.Faults.{words_few}
use Rattle.rv_asm.proofs.laws.words_are_few.Goals as goal

pub returns : goal.returns
returns c = words_few
