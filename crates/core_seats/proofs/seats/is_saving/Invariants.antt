use Rattle.std.proofs.Common.{◌≡◌, false, take}
use Rattle.core_seats.specs.Others.{saves_in}
use Rattle.core_seats.proofs.seats.is_saving.Given as goal

abbrev pub invariant-loop-seat : goal.invariant-loop-seat
invariant-loop-seat l = saves_in (take l.seat-index l.seats) ≡ false
