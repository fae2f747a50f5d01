use Rattle.std.proofs.Common.{◌≡◌, ◌-◌, ◌≤◌, vec_len}
use Rattle.nv_base.proofs.SoFar.{HasGiven}
use Rattle.nv_base.proofs.whole.read_all.Given as goal

abbrev pub invariant-loop-bytes : goal.invariant-loop-bytes
invariant-loop-bytes g l = record {
  within : vec_len l.bytes ≤ l.max;
  given : HasGiven (g.S.Source.seen l.initial.src).bytes (g.S.Source.seen l.src).bytes l.bytes.items;
  still : (g.S.Source.seen l.src).faults ≡ (g.S.Source.seen l.initial.src).faults;
}

abbrev pub decreases-loop-bytes : goal.decreases-loop-bytes
decreases-loop-bytes g l = l.max - vec_len l.bytes
