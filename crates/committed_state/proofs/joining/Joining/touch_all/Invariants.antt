use Rattle.std.proofs.Common.{length}
use Rattle.committed_state.proofs.Touching.{AreTouchedButFor}
use Rattle.committed_state.proofs.joining.Joining.touch_all.Given as goal

abbrev pub invariant-loop-o : goal.invariant-loop-o
invariant-loop-o l = AreTouchedButFor l.left l.self l.slots l.count l.initial.versions l.versions

abbrev pub decreases-loop-o : goal.decreases-loop-o
decreases-loop-o l = length l.left
