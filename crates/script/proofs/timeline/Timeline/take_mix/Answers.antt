use Rattle.std.proofs.Common.{◌+◌, ◌≤◌, [], ◌∷◌, length, arith}
use Rattle.power_trace.specs.declared.items.StepItem.TheVariants.{Mix}
use Rattle.script.proofs.Counts.{steps_counted}
use Rattle.script.proofs.timeline.Timeline.take_mix.Goals as goal

pub invariant_of-self-2 : goal.invariant_of-self-2
invariant_of-self-2 c =
    let count = c.self.inside.count in
    let n = c.in_ok-count.count in
    let few : count + n ≤ 1000000 = omega (arith, c.if-from-gt-MOST_EVENTS.false, c.from.ensures) in
    let one = Mix c.in_ok-seed.seed n ∷ [] in
    rw c.in_ok-push.ensures.items
    (steps_counted c.self.inside.items.items one count (count + n) (length c.self.inside.on_times.items) c.self.invariant.0 (omega arith) few)
