use Rattle.vol_copy.specs.Tries.{IsFor}
use Rattle.core_seats.proofs.tests.runs.Given as goal

abbrev pub invariant-loop : goal.invariant-loop
invariant-loop l = IsFor l.set l.seat.attempt
