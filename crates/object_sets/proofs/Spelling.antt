-- Increasing lists with the same objects are equal.
use Rattle.std.proofs.Common.{◌≡◌, ℕ, ◌<◌, ◌≤◌, Bool, true, false, eqb, eq-eqb, ne_eqb, ◌||◌, List, [], ◌∷◌, refl, sym, subst, ◌∙◌, arith}
use Rattle.std.specs.List.{AllByRecursion}
use Rattle.std.proofs.lemmas.Bool.{eqb-true}
use Rattle.object_sets.specs.ObjectSets.{is_among, IsIncreasing}

-- what is below all of them is not among them
pub below-among : (o : ℕ) (xs : List ℕ) → AllByRecursion (λ y. o < y) xs → is_among o xs ≡ false
below-among o [] h = refl
below-among o (x ∷ xs) h = rw (ne_eqb x o (λ e. absurd (omega (arith, h.0, e)))) (below-among o xs h.1)

is_among-head : (x : ℕ) (xs : List ℕ) → is_among x (x ∷ xs) ≡ true
is_among-head x xs = rw (eq-eqb x x refl) refl

-- an object that is among some has what they all have
pub among-all : (P : ℕ → Type 0) (o : ℕ) (xs : List ℕ) → AllByRecursion P xs → is_among o xs ≡ true → P o
among-all P o [] h e = absurd (cc e)
among-all P o (x ∷ xs) h e = go (among-all P o xs h.1) (eqb x o) refl e
  where
    go : (is_among o xs ≡ true → P o) → (b : Bool) → eqb x o ≡ b → (b || is_among o xs) ≡ true → P o
    go rest true f e = subst P (eqb-true x o f) h.0
    go rest false f e = rest e

-- the first of an increasing list is at most each of them
first-least : (o x : ℕ) (xs : List ℕ) → IsIncreasing (x ∷ xs) → is_among o (x ∷ xs) ≡ true → x ≤ o
first-least o x xs h e = go (eqb x o) refl e
  where
    go : (b : Bool) → eqb x o ≡ b → (b || is_among o xs) ≡ true → x ≤ o
    go true f e = omega (arith, eqb-true x o f)
    go false f e = let l : x < o = among-all (λ y. x < y) o xs h.0 e in omega arith

-- the same objects behind the same first one
rest-same : (x : ℕ) (xs ys : List ℕ) → IsIncreasing (x ∷ xs) → IsIncreasing (x ∷ ys) → ((o : ℕ) → is_among o (x ∷ xs) ≡ is_among o (x ∷ ys)) → (o : ℕ) → is_among o xs ≡ is_among o ys
rest-same x xs ys h k e o = go (eqb x o) refl (e o)
  where
    go : (b : Bool) → eqb x o ≡ b → (b || is_among o xs) ≡ (b || is_among o ys) → is_among o xs ≡ is_among o ys
    go true f g = subst (λ p. is_among p xs ≡ is_among p ys) (eqb-true x o f) (below-among x xs h.0 ∙ sym (below-among x ys k.0))
    go false f g = g

pub same_objects : (xs ys : List ℕ) → IsIncreasing xs → IsIncreasing ys → ((o : ℕ) → is_among o xs ≡ is_among o ys) → xs ≡ ys
same_objects [] [] h k e = refl
same_objects [] (y ∷ ys) h k e = let f : false ≡ true = e y ∙ is_among-head y ys in absurd (cc f)
same_objects (x ∷ xs) [] h k e = let f : true ≡ false = sym (is_among-head x xs) ∙ e x in absurd (cc f)
same_objects (x ∷ xs) (y ∷ ys) h k e = joined (same_objects xs ys h.1) first k e
  where
    first : x ≡ y
    first =
        let a : x ≤ y = first-least y x xs h (e y ∙ is_among-head y ys) in
        let b : y ≤ x = first-least x y ys k (sym (e x) ∙ is_among-head x xs) in
        omega arith

    joined : (IsIncreasing ys → ((o : ℕ) → is_among o xs ≡ is_among o ys) → xs ≡ ys) → x ≡ y → IsIncreasing (y ∷ ys) → ((o : ℕ) → is_among o (x ∷ xs) ≡ is_among o (y ∷ ys)) → x ∷ xs ≡ y ∷ ys
    joined rest f k e =
        let m : IsIncreasing (x ∷ ys) = subst (λ z. IsIncreasing (z ∷ ys)) (sym f) k in
        let g : (o : ℕ) → is_among o (x ∷ xs) ≡ is_among o (x ∷ ys) = subst (λ z. (o : ℕ) → is_among o (x ∷ xs) ≡ is_among o (z ∷ ys)) (sym f) e in
        let r : xs ≡ ys = rest m.1 (rest-same x xs ys h m g) in
        cc
