-- What the limits say of one object, program or task, by its number.
use Rattle.std.proofs.Common.{ℕ, zero, suc, ◌<◌, List, [], ◌∷◌, length, get_or, map, arith}
use Rattle.std.specs.List.{AllByRecursion}
use Rattle.set_model.specs.Names.{IsName}

pub all_at : {X : Type 0} (P : X → Type 0) (xs : List X) (none : X) (i : ℕ) → AllByRecursion P xs → i < length xs → P (get_or xs i none)
all_at P [] none i h l = absurd (omega (arith, l))
all_at P (x ∷ xs) none zero h l = h.0
all_at P (x ∷ xs) none (suc i) h l = all_at P xs none i h.1 (omega (arith, l))

-- the same of a name
pub named_at : {X : Type 0} (name_of : X → List ℕ) (xs : List X) (none : X) (i : ℕ) → AllByRecursion IsName (map name_of xs) → i < length xs → IsName (name_of (get_or xs i none))
named_at name_of [] none i h l = absurd (omega (arith, l))
named_at name_of (x ∷ xs) none zero h l = h.0
named_at name_of (x ∷ xs) none (suc i) h l = named_at name_of xs none i h.1 (omega (arith, l))
