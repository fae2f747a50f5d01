use Rattle.std.proofs.Common.{length}
use Rattle.script.proofs.FrontLines.{HasPassed}
use Rattle.script.proofs.front.front_end.Given as goal

abbrev pub invariant-loop-line : goal.invariant-loop-line
invariant-loop-line l = HasPassed l.fn.bytes l.in_block l.rest

abbrev pub decreases-loop-line : goal.decreases-loop-line
decreases-loop-line l = length l.rest
