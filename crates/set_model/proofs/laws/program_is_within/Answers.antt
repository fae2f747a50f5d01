use Rattle.set_model.specs.Limits.{IsProgram}
use Rattle.set_model.proofs.AtFacts.{all_at}
use Rattle.set_model.proofs.laws.program_is_within.Goals as goal

pub returns : goal.returns
returns c = λ set p h l. all_at (IsProgram set.memory) set.programs _ p h.each_program l
