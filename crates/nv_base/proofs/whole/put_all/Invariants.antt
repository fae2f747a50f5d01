use Rattle.std.proofs.Common.{◌-◌, ◌≤◌, length, take}
use Rattle.nv_base.specs.Streams.{PutsText}
use Rattle.nv_base.proofs.whole.put_all.Given as goal

abbrev pub invariant-loop-at : goal.invariant-loop-at
invariant-loop-at g l = record {
  within : l.at ≤ length l.bytes;
  puts : PutsText (take l.at l.bytes) (g.K.Sink.seen l.initial.out) (g.K.Sink.seen l.out);
}

abbrev pub decreases-loop-at : goal.decreases-loop-at
decreases-loop-at g l = length l.bytes - l.at
