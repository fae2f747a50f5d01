use Rattle.rv_asm.proofs.LoadFacts.{load_value}
use Rattle.rv_asm.proofs.laws.load_leaves_value.Goals as goal

pub returns : goal.returns
returns c = load_value
