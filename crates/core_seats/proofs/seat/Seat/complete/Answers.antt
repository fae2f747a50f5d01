use Rattle.core_seats.proofs.Granted.{completes}
use Rattle.core_seats.proofs.seat.Seat.complete.Goals as goal

pub returns-in-Some-clause-completes : goal.returns-in-Some-clause-completes
returns-in-Some-clause-completes c = completes c.args.self.now c.in-Some.saving c.in-Some.is
