use Rattle.vol_copy.specs.Stages.{IsAfterWord}
use Rattle.vol_copy.specs.Tries.{IsFor}
use Rattle.vol_copy.proofs.tests.copies.Given as goal

abbrev pub invariant-loop-word : goal.invariant-loop-word
invariant-loop-word l = record { kept : IsFor l.set l.attempt; stage : IsAfterWord l.last l.attempt.stage }
