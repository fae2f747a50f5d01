use Rattle.kernel_core.specs.Cuts.{AreCut}
use Rattle.kernel_core.proofs.commit.cut_all.Given as goal

abbrev pub invariant-loop-n : goal.invariant-loop-n
invariant-loop-n l = AreCut l.fn.point.0 l.fn.written l.n l.fn.seats.items l.seats.items
