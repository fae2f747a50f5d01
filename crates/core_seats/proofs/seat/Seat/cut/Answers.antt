use Rattle.core_seats.proofs.Granted.{is_cut}
use Rattle.core_seats.proofs.seat.Seat.cut.Goals as goal

pub returns-clause-cuts : goal.returns-clause-cuts
returns-clause-cuts c = is_cut c.args.self.now c.args.point.0 c.args.written c.reads_before-self.result c.seat_is_cut.ensures c.reads_before-self.ensures
