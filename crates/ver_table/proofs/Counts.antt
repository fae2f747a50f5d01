-- How many slots below a number are taken: as many as versions that take one.
use Rattle.std.proofs.Common.{◌≡◌, ℕ, zero, suc, ◌+◌, ◌<◌, ◌≤◌, Bool, true, false, cond, eqb, ◌||◌, ◌&&◌, List, [], ◌∷◌, length, map, refl, sym, ap, ◌∙◌, arith}
use Rattle.std.specs.List.{list_any}
use Rattle.std.proofs.lemmas.Bool.{eqb-true, eqb-false, ne_eqb, le-leb, lt-leb}
use Rattle.object_sets.specs.ObjectSets.{is_among}
use Rattle.ver_table.specs.Chains.{Chain, Place}
use Rattle.ver_table.specs.Places.{all_older, count, has_place, is_taken}
use Rattle.ver_table.specs.Slots.{AreSlots}

-- how many numbers below n pass
abbrev pub below : ℕ → (ℕ → Bool) → ℕ
below zero p = 0
below (suc n) p = cond (p n) (below n p + 1) (below n p)

below-same : (n : ℕ) (p q : ℕ → Bool) → ((k : ℕ) → k < n → p k ≡ q k) → below n p ≡ below n q
below-same zero p q h = refl
below-same (suc n) p q h =
    let rest : below n p ≡ below n q = below-same n p q (λ k l. h k (omega (arith, l))) in
    ap (λ (m : ℕ). cond (p n) (m + 1) m) rest ∙ ap (λ (b : Bool). cond b (below n q + 1) (below n q)) (h n (omega arith))

below-most : (n : ℕ) (p : ℕ → Bool) → below n p ≤ n
below-most zero p = omega arith
below-most (suc n) p = at (p n) (below-most n p)
  where
    at : (b : Bool) → below n p ≤ n → cond b (below n p + 1) (below n p) ≤ suc n
    at true l = omega (arith, l)
    at false l = omega (arith, l)

pub below-all : (n : ℕ) (p : ℕ → Bool) → ((k : ℕ) → k < n → p k ≡ true) → below n p ≡ n
below-all zero p h = refl
below-all (suc n) p h =
    let rest : below n p ≡ n = below-all n p (λ k l. h k (omega (arith, l))) in
    let here : p n ≡ true = h n (omega arith) in
    rw here (omega (arith, rest))

pub below-gap : (n : ℕ) (p : ℕ → Bool) (k : ℕ) → k < n → p k ≡ false → below n p < n
below-gap zero p k l e = absurd (omega (arith, l))
below-gap (suc n) p k l e = by (λ b. below-gap n p k b e) (eqb k n) refl
  where
    at : (b : Bool) → below n p < n → cond b (below n p + 1) (below n p) < suc n
    at true l = omega (arith, l)
    at false l = omega (arith, l)

    by : (k < n → below n p < n) → (b : Bool) → eqb k n ≡ b → cond (p n) (below n p + 1) (below n p) < suc n
    by rest true f = let same : k ≡ n = eqb-true k n f in let here : p n ≡ false = ap p (sym same) ∙ e in let most = below-most n p in rw here (omega (arith, most))
    by rest false f = let other : k ≡ n → ⊥ = eqb-false k n f in at (p n) (rest (omega (arith, l, other)))

-- with one more number
pub below-more : (n x : ℕ) (q : ℕ → Bool) → x < n → q x ≡ false → below n (λ k. eqb x k || q k) ≡ below n q + 1
below-more zero x q l e = absurd (omega (arith, l))
below-more (suc n) x q l e = by (λ b. below-more n x q b e) (eqb x n) refl
  where
    at : (b : Bool) → below n (λ k. eqb x k || q k) ≡ below n q + 1 → cond b (below n (λ k. eqb x k || q k) + 1) (below n (λ k. eqb x k || q k)) ≡ cond b (below n q + 1) (below n q) + 1
    at true r = omega (arith, r)
    at false r = r

    by : (x < n → below n (λ k. eqb x k || q k) ≡ below n q + 1) → (b : Bool) → eqb x n ≡ b → cond (eqb x n || q n) (below n (λ k. eqb x k || q k) + 1) (below n (λ k. eqb x k || q k)) ≡ cond (q n) (below n q + 1) (below n q) + 1
    by rec true f =
        let same : x ≡ n = eqb-true x n f in
        let none : q n ≡ false = ap q (sym same) ∙ e in
        let rest : below n (λ k. eqb x k || q k) ≡ below n q = below-same n (λ k. eqb x k || q k) q (λ k b. ap (λ (c : Bool). c || q k) (ne_eqb x k (λ g. omega (arith, b, g, same)))) in
        rw (f, none) (omega (arith, rest))
    by rec false f = let other : x ≡ n → ⊥ = eqb-false x n f in rw f (at (q n) (rec (omega (arith, l, other))))

-- slots are as many as the numbers among them
pub below-slots : (n : ℕ) (ks : List ℕ) → AreSlots n ks → below n (λ k. is_among k ks) ≡ length ks
below-slots n [] s = none n
  where
    none : (m : ℕ) → below m (λ k. false) ≡ 0
    none zero = refl
    none (suc m) = none m
below-slots n (k ∷ ks) s = let rest = below-slots n ks s.2 in let more = below-more n k (λ j. is_among j ks) s.0 s.1 in omega (arith, rest, more)

-- the slots of these versions
abbrev pub slots_of : List Place → List ℕ
slots_of vs = map (λ v. v.slot) vs

not-taken : (needed : Place → Bool) (k : ℕ) (vs : List Place) → is_among k (slots_of vs) ≡ false → list_any (λ (u : Place). eqb u.slot k && needed u) vs ≡ false
not-taken needed k [] e = refl
not-taken needed k (v ∷ vs) e = at (not-taken needed k vs) (eqb v.slot k) e
  where
    at : (is_among k (slots_of vs) ≡ false → list_any (λ (u : Place). eqb u.slot k && needed u) vs ≡ false) → (b : Bool) → (b || is_among k (slots_of vs)) ≡ false → ((b && needed v) || list_any (λ (u : Place). eqb u.slot k && needed u) vs) ≡ false
    at rest true e = absurd (cc e)
    at rest false e = rest e

below-needed : (n : ℕ) (needed : Place → Bool) (vs : List Place) → AreSlots n (slots_of vs) → below n (λ k. list_any (λ (u : Place). eqb u.slot k && needed u) vs) ≡ count needed vs
below-needed n needed [] s = none n
  where
    none : (m : ℕ) → below m (λ k. false) ≡ 0
    none zero = refl
    none (suc m) = none m
below-needed n needed (v ∷ vs) s = at (needed v) (below-needed n needed vs s.2)
  where
    rest : ℕ → Bool
    rest k = list_any (λ (u : Place). eqb u.slot k && needed u) vs

    both : (b c : Bool) → ((b && true) || c) ≡ (b || c)
    both true c = refl
    both false c = refl

    none : (b c : Bool) → ((b && false) || c) ≡ c
    none true c = refl
    none false c = refl

    at : (b : Bool) → below n (λ k. list_any (λ (u : Place). eqb u.slot k && needed u) vs) ≡ count needed vs →
        below n (λ k. (eqb v.slot k && b) || list_any (λ (u : Place). eqb u.slot k && needed u) vs) ≡ cond b (count needed vs + 1) (count needed vs)
    at true e =
        below-same n (λ k. (eqb v.slot k && true) || list_any (λ (u : Place). eqb u.slot k && needed u) vs) (λ k. eqb v.slot k || list_any (λ (u : Place). eqb u.slot k && needed u) vs) (λ k l. both (eqb v.slot k) (list_any (λ (u : Place). eqb u.slot k && needed u) vs))
        ∙ below-more n v.slot (λ k. list_any (λ (u : Place). eqb u.slot k && needed u) vs) s.0 (not-taken needed v.slot vs s.1)
        ∙ ap (λ (m : ℕ). m + 1) e
    at false e =
        below-same n (λ k. (eqb v.slot k && false) || list_any (λ (u : Place). eqb u.slot k && needed u) vs) (λ k. list_any (λ (u : Place). eqb u.slot k && needed u) vs) (λ k l. none (eqb v.slot k) (list_any (λ (u : Place). eqb u.slot k && needed u) vs))
        ∙ e

below-taken : (n : ℕ) (needed : Place → Bool) (vs : List Place) → 1 ≤ length vs → AreSlots n (slots_of vs) → below n (is_taken needed vs) ≡ 1 + count needed (all_older vs)
below-taken n needed [] l s = absurd (omega (arith, l))
below-taken n needed (v ∷ vs) l s =
    let more = below-more n v.slot (λ k. list_any (λ (u : Place). eqb u.slot k && needed u) vs) s.0 (not-taken needed v.slot vs s.1) in
    let rest = below-needed n needed vs s.2 in
    omega (arith, more, rest)

-- where a slot is free there is a place
pub place_of_free : (needed : Place → Bool) (c : Chain) → 1 ≤ length c.stored → AreSlots c.slots (slots_of c.stored) → (k : ℕ) → k < c.slots → is_taken needed c.stored k ≡ false → has_place needed c ≡ true
place_of_free needed c l s k b e = let gap = below-gap c.slots (is_taken needed c.stored) k b e in let taken = below-taken c.slots needed c.stored l s in le-leb (1 + count needed (all_older c.stored) + 1) c.slots (omega (arith, gap, taken))

-- where all are taken there is none
pub no_place : (needed : Place → Bool) (c : Chain) → 1 ≤ length c.stored → AreSlots c.slots (slots_of c.stored) → ((k : ℕ) → k < c.slots → is_taken needed c.stored k ≡ true) → has_place needed c ≡ false
no_place needed c l s all = let full = below-all c.slots (is_taken needed c.stored) all in let taken = below-taken c.slots needed c.stored l s in lt-leb (1 + count needed (all_older c.stored) + 1) c.slots (omega (arith, full, taken))
