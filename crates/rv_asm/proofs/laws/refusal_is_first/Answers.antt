use Rattle.rv_asm.proofs.Faults.{first_refusal}
use Rattle.rv_asm.proofs.laws.refusal_is_first.Goals as goal

pub returns : goal.returns
returns c = first_refusal
