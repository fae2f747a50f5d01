use Rattle.std.proofs.Common.{◌≡◌, ◌+◌, map, drop}
use Rattle.schedule_model.specs.Limits.{steps_together}
use Rattle.power_trace.specs.Items.{item_of}
use Rattle.power_trace.proofs.index.steps_of.Given as goal

abbrev pub invariant-loop-item : goal.invariant-loop-item
invariant-loop-item l = l.steps + steps_together (map item_of (drop l.item-index l.items)) ≡ steps_together (map item_of l.items)
