use Rattle.set_model.proofs.AtFacts.{named_at}
use Rattle.set_model.proofs.laws.program_is_named.Goals as goal

pub returns : goal.returns
returns c = λ set p h l. named_at (λ p. p.name) set.programs _ p h.programs.each l
