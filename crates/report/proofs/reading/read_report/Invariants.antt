use Rattle.std.proofs.Common.{length}
use Rattle.report.proofs.Verdicts.{HasTaken}
use Rattle.report.proofs.reading.read_report.Given as goal

abbrev pub invariant-loop-line : goal.invariant-loop-line
invariant-loop-line l = HasTaken l.fn.set l.fn.bytes l.rest l.reader

abbrev pub decreases-loop-line : goal.decreases-loop-line
decreases-loop-line l = length l.rest
