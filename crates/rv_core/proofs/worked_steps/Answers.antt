use Rattle.std.proofs.Common.{refl}
use Rattle.rv_isa.specs.Table.{instruction_of}
use Rattle.rv_core.specs.Execution.{executed}
use Rattle.rv_core.proofs.worked_steps.Goals as goal

pub returns : goal.returns
unfolding executed instruction_of
returns c = refl
