-- Steps that are worked out before their turns come. This project's own.
use Rattle.std.specs.Prelude.{◌≡◌, ℕ, ◌≤◌, ◌<◌, List, [], ◌++◌, take, length}

-- the first steps stand in some room, and the others are left: none where there was room for more
pub record Fills (steps room filled : List ℕ) (count : ℕ) (left : List ℕ) : Type 0 where
  pub same : length filled ≡ length room
  pub inside : count ≤ length filled
  pub steps_are : steps ≡ take count filled ++ left
  pub all : count < length filled → left ≡ []

-- at least one of them does, if there is one
pub record FillsSome (steps room filled : List ℕ) (count : ℕ) (left : List ℕ) : Type 0 where
  pub same : length filled ≡ length room
  pub inside : count ≤ length filled
  pub steps_are : steps ≡ take count filled ++ left
  pub some : count ≡ 0 → left ≡ []
