use Rattle.std.proofs.Common.{subst, ap, length, arith}
use Rattle.schedule_model.specs.Failures.{events_of}
use Rattle.schedule_model.specs.Limits.{IsSchedule}
use Rattle.power_trace.proofs.Found.{indexed_length, indexed_short}
use Rattle.power_trace.proofs.schedule.Schedule.len.Goals as goal

pub overflow_cast-result : goal.overflow_cast-result
overflow_cast-result c = omega (arith, c.len.ensures, indexed_short _ _ _ _ c.self.invariant)

pub overflow_add-result : goal.overflow_add-result
overflow_add-result c = omega (arith, c.len.ensures, indexed_short _ _ _ _ c.self.invariant)

pub returns-clause-count : goal.returns-clause-count
returns-clause-count c =
    omega (arith, c.len.ensures, indexed_length _ _ _ _ c.self.invariant, ap (λ s. length (events_of s)) c.self.view_is)

pub returns-clause-proper : goal.returns-clause-proper
returns-clause-proper c = subst IsSchedule c.self.view_is c.self.invariant.proper
