use Rattle.std.proofs.Common.{◌≡◌, ℕ, ◌||◌, length}
use Rattle.object_sets.specs.ObjectSets.{is_among}
use Rattle.committed_state.proofs.joining.Joining.touched.Given as goal

-- those that were added and those that are left are all
abbrev pub invariant-loop-o : goal.invariant-loop-o
invariant-loop-o l = (p : ℕ) → (is_among p l.all || is_among p l.left) ≡ (is_among p l.self.written || is_among p l.self.reads)

abbrev pub decreases-loop-o : goal.decreases-loop-o
decreases-loop-o l = length l.left
