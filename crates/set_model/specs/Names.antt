-- The names in a task set. This project's own.
use Rattle.std.specs.Prelude.{◌≢◌, ℕ, List, Bool, map, nat_eq, not}
use Rattle.std.specs.Cmp.Lexicographic.{pointwise}
use Rattle.std.specs.List.{AllByRecursion, list_any}
use Rattle.set_model.specs.Sets.{TaskSet}
use Rattle.object_sets.specs.Pairs.{AllPairsByRecursion}
-- what a name is
pub use Rattle.plain_text.specs.Names.{IsName, is_name_byte}

-- none is the same as a later one
abbrev pub AreDistinct : List (List ℕ) → Type 0
AreDistinct = AllPairsByRecursion (λ name later. name ≢ later)

-- whether a name is none of those taken
abbrev pub is_new : List (List ℕ) → List ℕ → Bool
is_new taken name = not (list_any (pointwise nat_eq name) taken)

-- each is a name, and no two are the same
pub record AreNames (names : List (List ℕ)) : Type 0 where
  pub each : AllByRecursion IsName names
  pub once : AreDistinct names

-- an object and a program may have the same name
pub record IsNamed (set : TaskSet) : Type 0 where
  pub objects : AreNames (map (λ o. o.name) set.objects)
  pub programs : AreNames (map (λ p. p.name) set.programs)
