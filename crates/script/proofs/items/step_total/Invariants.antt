use Rattle.std.proofs.Common.{◌≡◌, ◌+◌, ◌-◌, ◌^◌, min, map, take}
use Rattle.power_trace.specs.Items.{item_of}
use Rattle.schedule_model.specs.Limits.{steps_together}
use Rattle.script.proofs.items.step_total.Given as goal

abbrev pub invariant-loop-item : goal.invariant-loop-item
invariant-loop-item l = l.total ≡ min (l.others + steps_together (map item_of (take l.item-index l.items))) (2 ^ 64 - 1)
