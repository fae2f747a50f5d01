use Rattle.recovery.specs.Images.{words_of}
use Rattle.kernel_core.specs.Events.{Stands}
use Rattle.kernel_core.proofs.fused_tests.drive.Given as goal

abbrev pub invariant-loop-i : goal.invariant-loop-i
invariant-loop-i g l = Stands l.kernel (words_of (g.F.Fram.log l.dev) (g.F.Fram.start l.dev))
