use Rattle.vol_copy.proofs.SeatTurns.{seat_task, seat_view}
use Rattle.vol_copy.proofs.laws.seat_is_seen.Goals as goal

pub returns-clause-view : goal.returns-clause-view
returns-clause-view c = seat_view

pub returns-clause-task : goal.returns-clause-task
returns-clause-task c = seat_task
