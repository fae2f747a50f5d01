use Rattle.script.proofs.Whole.{read_in_order}
use Rattle.script.proofs.laws.lines_are_laid_out.Goals as goal

pub returns : goal.returns
returns c = λ bytes script h. read_in_order bytes script h
