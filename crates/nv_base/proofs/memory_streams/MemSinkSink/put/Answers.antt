use Rattle.std.proofs.Common.{arith}
use Rattle.std.proofs.lemmas.Grind.{common_steps}
use Rattle.nv_base.proofs.memory_streams.MemSinkSink.put.Goals as goal
use Rattle.nv_base.proofs.memory_streams.MemSinkSink.put.Goals.{then-free-eq0-via-then-free-eq0, then-free-eq0-via-else-free-eq0+then-contains}

pub returns-then-free-eq0-clause-errs : goal.returns-then-free-eq0-clause-errs
returns-then-free-eq0-clause-errs c =
    elim c.then-free-eq0.branch [
      | then-free-eq0-via-then-free-eq0 w ↦ grind (arith, common_steps)
      | then-free-eq0-via-else-free-eq0+then-contains w ↦ grind (arith, common_steps)
    ]
