use Rattle.std.proofs.Common.{ap, arith}
use Rattle.schedule_model.specs.Failures.{events_of}
use Rattle.schedule_model.specs.Parts.{failure_count}
use Rattle.power_trace.proofs.Found.{indexed_short}
use Rattle.power_trace.proofs.FailureCounts.{indexed_failures}
use Rattle.power_trace.proofs.schedule.Schedule.failures.Goals as goal

pub overflow_cast-result : goal.overflow_cast-result
overflow_cast-result c = omega (arith, c.len.ensures, indexed_short _ _ _ _ c.self.invariant)

pub returns : goal.returns
returns c = omega (arith, c.len.ensures, indexed_failures _ _ _ _ c.self.invariant, ap (λ s. failure_count (events_of s)) c.self.view_is)
