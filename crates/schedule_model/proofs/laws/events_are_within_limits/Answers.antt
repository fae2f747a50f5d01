use Rattle.std.proofs.Common.{arith}
use Rattle.schedule_model.specs.CoreSteps.{core_steps}
use Rattle.schedule_model.proofs.FailureLaws.{count_few, length_events, of_cores}
use Rattle.schedule_model.proofs.StepLaws.{length-core_steps}
use Rattle.schedule_model.proofs.laws.events_are_within_limits.Goals as goal

pub returns-clause-short : goal.returns-clause-short
returns-clause-short c = λ s h.
    let steps = core_steps s.cores s.items in
    omega (arith, h.short, length_events s.on_times steps, count_few s.on_times steps, length-core_steps s.cores s.items)

pub returns-clause-cores : goal.returns-clause-cores
returns-clause-cores c = of_cores
