-- A set that is walked over, its least object first.
use Rattle.std.proofs.Common.{◌≡◌, ℕ, ◌<◌, Bool, true, false, eqb, eq-eqb, ◌||◌, List, [], ◌∷◌, refl, ap, ◌∙◌, arith}
use Rattle.std.specs.List.{AllByRecursion}
use Rattle.object_sets.specs.ObjectSets.{IsIncreasing, is_among}
use Rattle.object_sets.proofs.ForCallers.{below-among}

pub first_among : (o : ℕ) (os all : List ℕ) → all ≡ o ∷ os → is_among o all ≡ true
first_among o os all e = ap (is_among o) e ∙ ap (λ b. b || is_among o os) (eq-eqb o o refl)

pub rest_among : (j o : ℕ) (os all : List ℕ) → all ≡ o ∷ os → is_among j os ≡ true → is_among j all ≡ true
rest_among j o os all e f = ap (is_among j) e ∙ behind (eqb o j) (is_among j os) f
  where
    behind : (b c : Bool) → c ≡ true → (b || c) ≡ true
    behind true c e = refl
    behind false c e = e

-- what is below the least is not among them
pub before_all : (j o : ℕ) (os : List ℕ) → j < o → IsIncreasing (o ∷ os) → is_among j (o ∷ os) ≡ false
before_all j o os l h = below-among j (o ∷ os) (l, above os h.0)
  where
    above : (xs : List ℕ) → AllByRecursion (λ x. o < x) xs → AllByRecursion (λ x. j < x) xs
    above [] k = tt
    above (x ∷ xs) k = (omega (arith, l, k.0), above xs k.1)
