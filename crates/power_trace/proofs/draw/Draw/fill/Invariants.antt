use Rattle.std.proofs.Common.{◌≡◌, ◌≤◌, ◌-◌, ◌++◌, take, length}
use Rattle.power_trace.proofs.draw.Draw.fill.Given as goal

abbrev pub invariant-loop-count : goal.invariant-loop-count
invariant-loop-count l = record {
  same : length l.room ≡ length l.initial.room;
  inside : l.count ≤ length l.room;
  steps_are : l.fn.self ≡ take l.count l.room ++ l.left;
}

abbrev pub decreases-loop-count : goal.decreases-loop-count
decreases-loop-count l = length l.room - l.count
