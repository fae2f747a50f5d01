use Rattle.std.proofs.Common.{refl}
use Rattle.rv_isa.specs.Table.{instruction_of}
use Rattle.rv_core.proofs.decoded.Known.ecall.Goals as goal

pub invariant_of-result : goal.invariant_of-result
unfolding instruction_of
invariant_of-result c = (refl, tt)
