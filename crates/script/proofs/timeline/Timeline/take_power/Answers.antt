use Rattle.std.proofs.Common.{List, ◌+◌, ◌-◌, ◌^◌, min, map, sum_by, replicate, ap, ◌∙◌}
use Rattle.std.specs.List.{flat_map}
use Rattle.power_trace.specs.Items.{item_of}
use Rattle.schedule_model.specs.Limits.{steps_together}
use Rattle.script.specs.declared.items.OnTimes.{OnTimes}
use Rattle.script.proofs.Counts.{times_counted}
use Rattle.script.proofs.timeline.Timeline.take_power.Goals as goal

pub invariant_of-self-2 : goal.invariant_of-self-2
invariant_of-self-2 c =
    let total = c.on_time_total-count.ensures ∙ ap (λ (xs : List OnTimes). min (c.self.inside.count + sum_by (λ on. on.times) xs) (2 ^ 64 - 1)) c.deref.ensures.value in
    let list = c.in_ok-on_times.ensures ∙ ap (λ (xs : List OnTimes). flat_map (λ on. replicate on.times on.time) xs) c.deref-2.ensures.value in
    rw c.in_ok-append.ensures.items
    (times_counted c.self.inside.on_times.items c.in_ok-on_times.on_times.items c.in_ok-all.all.items c.self.inside.count c.on_time_total-count.result (steps_together (map item_of c.self.inside.items.items)) c.self.invariant.0 total list c.if-count-gt-MOST_EVENTS.false)
