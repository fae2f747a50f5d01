use Rattle.core_seats.proofs.Granted.{grants}
use Rattle.core_seats.proofs.seat.Seat.grant.Goals as goal

pub returns-clause-grants : goal.returns-clause-grants
returns-clause-grants c = grants c.args.self.now c.args.entry
