use Rattle.rv_asm.proofs.LoadFacts.{load_small, load_upper}
use Rattle.rv_asm.proofs.laws.load_is_short.Goals as goal

pub returns-clause-small : goal.returns-clause-small
returns-clause-small c = load_small

pub returns-clause-upper : goal.returns-clause-upper
returns-clause-upper c = load_upper
