use Rattle.std.proofs.Common.{refl}
use Rattle.rv_core.specs.Execution.{executed}
use Rattle.rv_isa.specs.Table.{instruction_of}
use Rattle.sim_run.proofs.rows.smallest_runs.Goals as goal

pub returns : goal.returns
unfolding executed instruction_of
returns c = (record { printed = refl; left = refl }, record { printed = refl; left = refl }, record { printed = refl; left = refl }, record { printed = refl; left = refl })
