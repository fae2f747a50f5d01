-- What a finish that joins makes of what the cores hold. This project's own.
use Rattle.std.specs.Prelude.{◌≡◌, ℕ, ◌<◌, ◌≤◌, List, get_or, length}
use Rattle.core_seats.specs.declared.seat.Seat.{Seat}
use Rattle.core_seats.specs.Steps.{IsCutBy}

-- a finish at a point, which wrote these objects, cuts what a core's try has read
pub record IsCut (point : ℕ) (written : List ℕ) (old new : Seat) : Type 0 where
  pub attempt : new.attempt ≡ old.attempt
  pub cuts : IsCutBy point written old new

-- it has cut the first so many seats, and the others are as they were
pub record AreCut (point : ℕ) (written : List ℕ) (count : ℕ) (old new : List Seat) : Type 0 where
  pub number : length new ≡ length old
  pub first : (n : ℕ) (s u : Seat) → n < count → s ≡ get_or old n s → u ≡ get_or new n u → IsCut point written s u
  pub rest : (n : ℕ) (s : Seat) → count ≤ n → get_or new n s ≡ get_or old n s
