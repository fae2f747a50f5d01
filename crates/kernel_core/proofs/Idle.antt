-- Cores without a task.
use Rattle.std.proofs.Common.{◌≡◌, ℕ, ◌+◌, List, [], ◌∷◌, ◌++◌, length, replicate, sym, ap, length-append, subst, arith}
use Rattle.std.specs.List.{AllByRecursion}
use Rattle.set_model.specs.Sets.{TaskSet}
use Rattle.device_model.specs.IndexWords.{Index}
use Rattle.table_machine.specs.Tables.{Vacant}
use Rattle.vol_copy.specs.Tries.{IsFor}
use Rattle.core_seats.specs.declared.seat.Seat.{Seat}
use Rattle.core_seats.specs.Holding.{AreSeats}
use Rattle.kernel_core.specs.Opening.{AreIdle, IsIdle}

all_idle : (set : TaskSet) (seats : List Seat) (s : Seat) → AllByRecursion (IsIdle set) seats → IsIdle set s → AllByRecursion (IsIdle set) (seats ++ s ∷ [])
all_idle set [] s h i = (i, tt)
all_idle set (x ∷ seats) s h i = (h.0, all_idle set seats s h.1 i)

pub idle_more : (set : TaskSet) (count : ℕ) (seats more : List Seat) (s : Seat) → AreIdle set count seats → IsIdle set s → more ≡ seats ++ s ∷ [] → AreIdle set (count + 1) more
idle_more set count seats more s h i e = record {
  number = let l = length-append seats (s ∷ []) in let n = ap length e in omega (arith, l, n, h.number);
  all = subst (AllByRecursion (IsIdle set)) (sym e) (all_idle set seats s h.all i);
}

-- their seats are vacant
pub vacant_seats : (set : TaskSet) (seats : List Seat) (after : Index) → AllByRecursion (IsIdle set) seats → AreSeats seats after (replicate (length seats) Vacant)
vacant_seats set [] after h = tt
vacant_seats set (s ∷ seats) after h = (h.0.vacant after, vacant_seats set seats after h.1)

pub idle_kept : (set : TaskSet) (seats : List Seat) → AllByRecursion (IsIdle set) seats → AllByRecursion (λ s. IsFor set s.attempt) seats
idle_kept set [] h = tt
idle_kept set (s ∷ seats) h = (h.0.kept, idle_kept set seats h.1)
