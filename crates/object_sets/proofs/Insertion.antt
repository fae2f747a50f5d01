-- What putting an object into an increasing list does.
use Rattle.std.proofs.Common.{◌≡◌, ℕ, ◌<◌, ◌≤◌, Bool, true, false, cond, ltb, eqb, ◌||◌, List, [], ◌∷◌, refl, subst, arith}
use Rattle.std.specs.List.{AllByRecursion}
use Rattle.std.proofs.lemmas.Bool.{eqb-true, eqb-false, ltb-true, ltb-false}
use Rattle.object_sets.specs.ObjectSets.{inserted, is_among, with_object, IsIncreasing}

pub inserted-all : (P : ℕ → Type 0) (o : ℕ) (xs : List ℕ) → P o → AllByRecursion P xs → AllByRecursion P (inserted o xs)
inserted-all P o [] h k = (h, tt)
inserted-all P o (x ∷ xs) h k =
    elim (ltb o x) as (λ b. AllByRecursion P (cond b (o ∷ x ∷ xs) (x ∷ inserted o xs))) [ true ↦ (h, k) | false ↦ (k.0, inserted-all P o xs h k.1) ]

pub with_object-all : (P : ℕ → Type 0) (o : ℕ) (xs : List ℕ) → P o → AllByRecursion P xs → AllByRecursion P (with_object o xs)
with_object-all P o xs h k = elim (is_among o xs) as (λ b. AllByRecursion P (cond b xs (inserted o xs))) [ true ↦ k | false ↦ inserted-all P o xs h k ]

-- what follows a greater number follows a lesser one
pub lower : (p q : ℕ) (xs : List ℕ) → p < q → AllByRecursion (λ y. q < y) xs → AllByRecursion (λ y. p < y) xs
lower p q [] l h = tt
lower p q (x ∷ xs) l h = (omega (arith, h.0), lower p q xs l h.1)

inserted-increasing : (o : ℕ) (xs : List ℕ) → is_among o xs ≡ false → IsIncreasing xs → IsIncreasing (inserted o xs)
inserted-increasing o [] e h = (tt, tt)
inserted-increasing o (x ∷ xs) e h = at (λ k. inserted-increasing o xs k h.1) (eqb x o) refl e
  where
    go : (x ≡ o → ⊥) → IsIncreasing (inserted o xs) → (c : Bool) → ltb o x ≡ c → IsIncreasing (cond c (o ∷ x ∷ xs) (x ∷ inserted o xs))
    go ne rest true f = let l : o < x = ltb-true o x f in ((l, lower o x xs l h.0), h)
    go ne rest false f =
        let l : x ≤ o = ltb-false o x f in
        let m : x < o = omega (arith, ne) in
        (inserted-all (λ y. x < y) o xs m h.0, rest)

    at : (is_among o xs ≡ false → IsIncreasing (inserted o xs)) → (b : Bool) → eqb x o ≡ b → (b || is_among o xs) ≡ false → IsIncreasing (inserted o (x ∷ xs))
    at rest true f e = absurd (cc e)
    at rest false f e = go (eqb-false x o f) (rest e) (ltb o x) refl

pub with_object-increasing : (o : ℕ) (xs : List ℕ) → IsIncreasing xs → IsIncreasing (with_object o xs)
with_object-increasing o xs h = go (is_among o xs) refl
  where
    go : (b : Bool) → is_among o xs ≡ b → IsIncreasing (cond b xs (inserted o xs))
    go true e = h
    go false e = inserted-increasing o xs e h

-- of three tests one after another, the order does not count
or-swap : (a b c : Bool) → (a || (b || c)) ≡ (b || (a || c))
or-swap true true c = refl
or-swap true false c = refl
or-swap false b c = refl

is_among-inserted : (p o : ℕ) (xs : List ℕ) → is_among p (inserted o xs) ≡ (eqb o p || is_among p xs)
is_among-inserted p o [] = refl
is_among-inserted p o (x ∷ xs) = go (is_among-inserted p o xs) (ltb o x)
  where
    go : is_among p (inserted o xs) ≡ (eqb o p || is_among p xs) → (c : Bool) → is_among p (cond c (o ∷ x ∷ xs) (x ∷ inserted o xs)) ≡ (eqb o p || (eqb x p || is_among p xs))
    go rest true = refl
    go rest false = rw rest (or-swap (eqb x p) (eqb o p) (is_among p xs))

-- one that is among them already adds nothing
or-among : (p o : ℕ) (xs : List ℕ) → is_among o xs ≡ true → is_among p xs ≡ (eqb o p || is_among p xs)
or-among p o xs e = go (eqb o p) refl
  where
    go : (b : Bool) → eqb o p ≡ b → is_among p xs ≡ (b || is_among p xs)
    go true f = subst (λ k. is_among k xs ≡ true) (eqb-true o p f) e
    go false f = refl

pub is_among-with_object : (o p : ℕ) (xs : List ℕ) → is_among p (with_object o xs) ≡ (eqb o p || is_among p xs)
is_among-with_object o p xs = go (is_among o xs) refl
  where
    go : (b : Bool) → is_among o xs ≡ b → is_among p (cond b xs (inserted o xs)) ≡ (eqb o p || is_among p xs)
    go true e = or-among p o xs e
    go false e = is_among-inserted p o xs
