use Rattle.kernel_core.specs.Opening.{AreIdle}
use Rattle.kernel_core.proofs.open.idle_seats.Given as goal

abbrev pub invariant-loop : goal.invariant-loop
invariant-loop l = AreIdle l.set l.counter l.seats.items
