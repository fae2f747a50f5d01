-- Sets of objects, kept as increasing lists of their numbers: this project's own.
use Rattle.std.specs.Prelude.{ℕ, ◌<◌, ◌==◌, nat_lt, Bool, false, ◌||◌, List, [], ◌∷◌, if◌then◌else◌}
use Rattle.std.specs.List.{AllByRecursion}
use Rattle.object_sets.specs.Pairs.{AllPairsByRecursion}

-- whether an object is in a list
abbrev pub is_among : ℕ → List ℕ → Bool
is_among o [] = false
is_among o (x ∷ xs) = (x == o) || is_among o xs

-- put before the first greater one
abbrev pub inserted : ℕ → List ℕ → List ℕ
inserted o [] = o ∷ []
inserted o (x ∷ xs) = if nat_lt o x then o ∷ x ∷ xs else x ∷ inserted o xs

-- a set of objects, with one more
abbrev pub with_object : ℕ → List ℕ → List ℕ
with_object o xs = if is_among o xs then xs else inserted o xs

-- an increasing list: each number is below all that follow it
abbrev pub IsIncreasing : List ℕ → Type 0
IsIncreasing = AllPairsByRecursion (λ x y. x < y)

-- all objects are below a number
abbrev pub AreBelow : ℕ → List ℕ → Type 0
AreBelow n xs = AllByRecursion (λ x. x < n) xs
