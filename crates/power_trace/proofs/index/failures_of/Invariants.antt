use Rattle.std.proofs.Common.{◌≡◌, ◌+◌, ◌++◌, drop}
use Rattle.power_trace.specs.Indexed.{failures_from}
use Rattle.power_trace.proofs.index.failures_of.Given as goal

abbrev pub invariant-loop-time : goal.invariant-loop-time
invariant-loop-time l = record {
  total : l.at + l.left ≡ l.steps + l.time-index;
  left : l.failures.items ++ failures_from l.at l.left (drop l.time-index l.on) ≡ failures_from 0 l.steps l.on;
}
