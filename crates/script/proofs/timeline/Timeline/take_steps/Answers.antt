use Rattle.std.proofs.Common.{List, ◌+◌, ◌-◌, ◌^◌, min, map, length, ap, ◌∙◌}
use Rattle.power_trace.specs.declared.items.StepItem.{StepItem}
use Rattle.power_trace.specs.Items.{item_of}
use Rattle.schedule_model.specs.Limits.{steps_together}
use Rattle.script.proofs.Counts.{steps_counted}
use Rattle.script.proofs.timeline.Timeline.take_steps.Goals as goal

pub invariant_of-self-2 : goal.invariant_of-self-2
invariant_of-self-2 c =
    let total = c.step_total-count.ensures ∙ ap (λ (xs : List StepItem). min (c.self.inside.count + steps_together (map item_of xs)) (2 ^ 64 - 1)) c.deref.ensures.value in
    rw c.in_ok-append.ensures.items
    (steps_counted c.self.inside.items.items c.in_ok-items.items.items c.self.inside.count c.step_total-count.result (length c.self.inside.on_times.items) c.self.invariant.0 total c.if-count-gt-MOST_EVENTS.false)
