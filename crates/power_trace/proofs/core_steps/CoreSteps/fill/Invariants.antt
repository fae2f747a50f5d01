use Rattle.std.proofs.Common.{◌≡◌, ◌≤◌, ◌++◌, map, length}
use Rattle.schedule_model.specs.CoreSteps.{core_steps}
use Rattle.power_trace.specs.Items.{item_of}
use Rattle.power_trace.specs.ItemSteps.{steps_left}
use Rattle.power_trace.proofs.core_steps.CoreSteps.fill.Given as goal

abbrev pub invariant-items : goal.invariant-items
invariant-items l = record {
  some_core : 1 ≤ l.self-inside.cores;
  same : length l.room ≡ length l.initial.room;
  left : steps_left l.self-inside.item ++ core_steps l.self-inside.cores (map item_of l.self-inside.items.now)
      ≡ steps_left l.initial.self-inside.item ++ core_steps l.initial.self-inside.cores (map item_of l.initial.self-inside.items.now);
}

abbrev pub decreases-items : goal.decreases-items
decreases-items l = length l.self-inside.items.now
