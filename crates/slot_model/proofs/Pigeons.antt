-- So many numbers, no two the same and all below a bound, are as many as the bound only where each number below it is among them.
use Rattle.std.proofs.Common.{◌≡◌, ℕ, zero, suc, ◌+◌, ◌<◌, ◌≤◌, ◌⊎◌, inl, inr, Bool, true, false, cond, eqb, not, ◌||◌, List, [], ◌∷◌, length, Some, None, refl, sym, ap, ◌∙◌, subst, arith, ⊎_elim}
use Rattle.std.specs.Prelude.{filter}
use Rattle.std.specs.List.{AllByRecursion, list_any}
use Rattle.std.proofs.lemmas.Bool.{eqb-true, eqb-false, ne_eqb, or_right, or_cases, cases_eq}
use Rattle.slot_model.specs.Places.{free_from}
use Rattle.object_sets.specs.Pairs.{AllPairsByRecursion}

-- whether a number is among some
abbrev pub has : ℕ → List ℕ → Bool
has n xs = list_any (λ x. eqb x n) xs

abbrev pub but : ℕ → List ℕ → List ℕ
but n xs = filter (λ x. not (eqb x n)) xs

-- no two are the same
abbrev pub AreDistinct : List ℕ → Type 0
AreDistinct = AllPairsByRecursion (λ x y. x ≡ y → ⊥)

has_others : (n j : ℕ) (xs : List ℕ) → (j ≡ n → ⊥) → has j xs ≡ true → has j (but n xs) ≡ true
has_others n j [] ne e = e
has_others n j (x ∷ xs) ne e = go (has_others n j xs ne) (eqb x n) refl e
  where
    go : (has j xs ≡ true → has j (but n xs) ≡ true) → (b : Bool) → eqb x n ≡ b → has j (x ∷ xs) ≡ true → has j (cond (not b) (x ∷ but n xs) (but n xs)) ≡ true
    go rest true f e = rest (⊎_elim (λ g. absurd (ne (sym (eqb-true x j g) ∙ eqb-true x n f))) (λ g. g) (or_cases (eqb x j) (has j xs) e))
    go rest false f e = ⊎_elim (λ g. rw g refl) (λ g. or_right (eqb x j) (has j (but n xs)) (rest g)) (or_cases (eqb x j) (has j xs) e)

but_length : (n : ℕ) (xs : List ℕ) → length (but n xs) ≤ length xs
but_length n [] = omega arith
but_length n (x ∷ xs) = go (but_length n xs) (eqb x n)
  where
    go : length (but n xs) ≤ length xs → (b : Bool) → length (cond (not b) (x ∷ but n xs) (but n xs)) ≤ length (x ∷ xs)
    go rest true = omega (arith, rest)
    go rest false = omega (arith, rest)

but_shorter : (n : ℕ) (xs : List ℕ) → has n xs ≡ true → length (but n xs) < length xs
but_shorter n [] e = absurd (cc e)
but_shorter n (x ∷ xs) e = go (but_shorter n xs) (eqb x n) e
  where
    go : (has n xs ≡ true → length (but n xs) < length xs) → (b : Bool) → (b || has n xs) ≡ true → length (cond (not b) (x ∷ but n xs) (but n xs)) < length (x ∷ xs)
    go rest true e = let l = but_length n xs in omega (arith, l)
    go rest false e = let l = rest e in omega (arith, l)

-- where all numbers below n are among them, they are n at least
pub covers : (n : ℕ) (xs : List ℕ) → ((j : ℕ) → j < n → has j xs ≡ true) → n ≤ length xs
covers zero xs h = omega arith
covers (suc n) xs h =
    let l = but_shorter n xs (h n (omega arith)) in
    let k = covers n (but n xs) (λ j m. has_others n j xs (λ e. absurd (omega (arith, e, m))) (h j (omega (arith, m)))) in
    omega (arith, l, k)

same_others : (n : ℕ) (xs : List ℕ) → AllByRecursion (λ y. n ≡ y → ⊥) xs → length (but n xs) ≡ length xs
same_others n [] h = refl
same_others n (x ∷ xs) h = rw (ne_eqb x n (λ e. h.0 (sym e))) (ap suc (same_others n xs h.1))

one_gone : (n : ℕ) (xs : List ℕ) → AreDistinct xs → length xs ≤ length (but n xs) + 1
one_gone n [] d = omega arith
one_gone n (x ∷ xs) d = go (one_gone n xs d.1) (eqb x n) refl
  where
    go : length xs ≤ length (but n xs) + 1 → (b : Bool) → eqb x n ≡ b → length (x ∷ xs) ≤ length (cond (not b) (x ∷ but n xs) (but n xs)) + 1
    go rest true e = let same = same_others n xs (subst (λ m. AllByRecursion (λ y. m ≡ y → ⊥) xs) (eqb-true x n e) d.0) in omega (arith, same)
    go rest false e = omega (arith, rest)

all_stay : (P : ℕ → Type 0) (n : ℕ) (xs : List ℕ) → AllByRecursion P xs → AllByRecursion P (but n xs)
all_stay P n [] h = tt
all_stay P n (x ∷ xs) h = go (all_stay P n xs h.1) (eqb x n)
  where
    go : AllByRecursion P (but n xs) → (b : Bool) → AllByRecursion P (cond (not b) (x ∷ but n xs) (but n xs))
    go rest true = rest
    go rest false = (h.0, rest)

distinct_stay : (n : ℕ) (xs : List ℕ) → AreDistinct xs → AreDistinct (but n xs)
distinct_stay n [] d = tt
distinct_stay n (x ∷ xs) d = go (distinct_stay n xs d.1) (eqb x n)
  where
    go : AreDistinct (but n xs) → (b : Bool) → AreDistinct (cond (not b) (x ∷ but n xs) (but n xs))
    go rest true = rest
    go rest false = (all_stay (λ y. x ≡ y → ⊥) n xs d.0, rest)

below_stay : (n : ℕ) (xs : List ℕ) → AllByRecursion (λ x. x < suc n) xs → AllByRecursion (λ x. x < n) (but n xs)
below_stay n [] h = tt
below_stay n (x ∷ xs) h = go (below_stay n xs h.1) (eqb x n) refl
  where
    go : AllByRecursion (λ x. x < n) (but n xs) → (b : Bool) → eqb x n ≡ b → AllByRecursion (λ x. x < n) (cond (not b) (x ∷ but n xs) (but n xs))
    go rest true e = rest
    go rest false e = (let ne = eqb-false x n e in let l : x < suc n = h.0 in ⊎_elim (λ f. absurd (ne f)) (λ f. f) (below ne l), rest)
      where
        below : (x ≡ n → ⊥) → x < suc n → (x ≡ n) ⊎ (x < n)
        below ne l = ⊎_elim (λ e. inl e) (λ f. inr (omega (arith, l, f))) (cases_eq x n)

-- distinct numbers below n are n at most
pub fits : (n : ℕ) (xs : List ℕ) → AreDistinct xs → AllByRecursion (λ x. x < n) xs → length xs ≤ n
fits zero [] d h = omega arith
fits zero (x ∷ xs) d h = absurd (let l : x < 0 = h.0 in omega (arith, l))
fits (suc n) xs d h =
    let k = fits n (but n xs) (distinct_stay n xs d) (below_stay n xs h) in
    let l = one_gone n xs d in
    omega (arith, k, l)

-- a number that is not among them differs from each
pub lacks : (n : ℕ) (xs : List ℕ) → has n xs ≡ false → AllByRecursion (λ y. n ≡ y → ⊥) xs
lacks n [] e = tt
lacks n (x ∷ xs) e = go (lacks n xs) (eqb x n) refl e
  where
    go : (has n xs ≡ false → AllByRecursion (λ y. n ≡ y → ⊥) xs) → (b : Bool) → eqb x n ≡ b → (b || has n xs) ≡ false → AllByRecursion (λ y. n ≡ y → ⊥) (x ∷ xs)
    go rest true f e = absurd (cc e)
    go rest false f e = (λ g. eqb-false x n f (sym g), rest e)

-- what a search for a free number finds
pub none_free : (k slots : ℕ) (taken : ℕ → Bool) → free_from k slots taken ≡ None → (j : ℕ) → k ≤ j → j < k + slots → taken j ≡ true
none_free k zero taken e j l m = absurd (omega (arith, l, m))
none_free k (suc slots) taken e j l m = go (none_free (k + 1) slots taken) (taken k) refl e
  where
    go : (free_from (k + 1) slots taken ≡ None → (j : ℕ) → k + 1 ≤ j → j < k + 1 + slots → taken j ≡ true) → (b : Bool) → taken k ≡ b → cond b (free_from (k + 1) slots taken) (Some k) ≡ None → taken j ≡ true
    go rest true f e = ⊎_elim (λ g. ap taken g ∙ f) (λ ne. rest e j (omega (arith, l, ne)) (omega (arith, m))) (cases_eq j k)
    go rest false f e = absurd (cc e)

-- the least one that is not taken
pub record IsLeast (k slots : ℕ) (taken : ℕ → Bool) (x : ℕ) : Type 0 where
  pub from : k ≤ x
  pub below : x < k + slots
  pub is_free : taken x ≡ false
  pub least : (j : ℕ) → k ≤ j → j < x → taken j ≡ true

pub one_free : (k slots : ℕ) (taken : ℕ → Bool) (x : ℕ) → free_from k slots taken ≡ Some x → IsLeast k slots taken x
one_free k zero taken x e = absurd (cc e)
one_free k (suc slots) taken x e = go (one_free (k + 1) slots taken x) (taken k) refl e
  where
    go : (free_from (k + 1) slots taken ≡ Some x → IsLeast (k + 1) slots taken x) → (b : Bool) → taken k ≡ b → cond b (free_from (k + 1) slots taken) (Some k) ≡ Some x → IsLeast k (suc slots) taken x
    go rest true f e =
        let r = rest e in record {
          from = let l = r.from in omega (arith, l);
          below = let l = r.below in omega (arith, l);
          is_free = r.is_free;
          least = λ j l m. ⊎_elim (λ g. ap taken g ∙ f) (λ ne. r.least j (omega (arith, l, ne)) m) (cases_eq j k);
        }
    go rest false f e =
        let same : k ≡ x = cc e in record {
          from = omega (arith, same);
          below = omega (arith, same);
          is_free = sym (ap taken same) ∙ f;
          least = λ j l m. absurd (omega (arith, l, m, same));
        }
