use Rattle.shadow_index.specs.States.{HasTaken}
use Rattle.shadow_index.proofs.tests.first_fault.Given as goal

abbrev pub invariant-loop-i : goal.invariant-loop-i
invariant-loop-i l = HasTaken l.set l.i l.state
