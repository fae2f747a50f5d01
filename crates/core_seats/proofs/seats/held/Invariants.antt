use Rattle.std.proofs.Common.{◌≡◌, ◌≤◌, length, map, take}
use Rattle.core_seats.specs.Others.{tasks_in}
use Rattle.core_seats.proofs.seats.held.Given as goal

abbrev pub invariant-loop-seat : goal.invariant-loop-seat
invariant-loop-seat l = record {
  listed : map (λ id. id.0) (take l.count l.tasks) ≡ tasks_in (take l.seat-index l.seats);
  few : l.count ≤ l.seat-index;
  long : length l.tasks ≡ 8;
}
