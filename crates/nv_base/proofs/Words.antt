-- A set of objects as one word.
use Rattle.std.proofs.Common.{◌≡◌, ◌≢◌, ℕ, zero, suc, ◌+◌, ◌*◌, ◌%◌, ◌^◌, ◌<◌, ◌≤◌, Bool, true, false, cond, eqb, eq-eqb, ne_eqb, ◌||◌, List, [], ◌∷◌, refl, sym, ap, subst, ◌∙◌, bit_and, bit_or, ltb, arith}
use Rattle.std.specs.List.{AllByRecursion}
use Rattle.std.specs.Int.{bit_at, bit_not, trailing_zeros, w128}
use Rattle.std.proofs.lemmas.Bool.{eqb-true, eqb-false, ltb-true, ltb-false}
use Rattle.std.proofs.lemmas.Nat.{and_le_l, or_lt, mod_below}
use Rattle.std.proofs.lemmas.Nat.Bits.{bit_at_above, bit_at_clear_other, bit_at_clear_same, bit_at_set_other, bit_at_set_same, bit_at-trailing_zeros}
use Rattle.object_sets.specs.ObjectSets.{is_among, with_object, AreBelow, IsIncreasing}
use Rattle.object_sets.proofs.ForCallers.{below-among, is_among-with_object, same_objects, with_object-increasing}
use Rattle.nv_base.specs.Bits.{objects_of, ones_from}

ones_from-above : (p n k w : ℕ) → p < k → AllByRecursion (λ x. p < x) (ones_from n k w)
ones_from-above p zero k w l = tt
ones_from-above p (suc n) k w l = go (ones_from-above p n (k + 1) w (omega arith)) (eqb (bit_at w k) 1)
  where
    go : AllByRecursion (λ x. p < x) (ones_from n (k + 1) w) → (b : Bool) → AllByRecursion (λ x. p < x) (cond b (k ∷ ones_from n (k + 1) w) (ones_from n (k + 1) w))
    go rest true = (l, rest)
    go rest false = rest

ones_from-below : (m n k w : ℕ) → k + n ≤ m → AllByRecursion (λ x. x < m) (ones_from n k w)
ones_from-below m zero k w l = tt
ones_from-below m (suc n) k w l = go (ones_from-below m n (k + 1) w (omega arith)) (eqb (bit_at w k) 1)
  where
    go : AllByRecursion (λ x. x < m) (ones_from n (k + 1) w) → (b : Bool) → AllByRecursion (λ x. x < m) (cond b (k ∷ ones_from n (k + 1) w) (ones_from n (k + 1) w))
    go rest true = (omega arith, rest)
    go rest false = rest

ones_from-increasing : (n k w : ℕ) → IsIncreasing (ones_from n k w)
ones_from-increasing zero k w = tt
ones_from-increasing (suc n) k w = go (ones_from-increasing n (k + 1) w) (ones_from-above k n (k + 1) w (omega arith)) (eqb (bit_at w k) 1)
  where
    go : IsIncreasing (ones_from n (k + 1) w) → AllByRecursion (λ x. k < x) (ones_from n (k + 1) w) → (b : Bool) → IsIncreasing (cond b (k ∷ ones_from n (k + 1) w) (ones_from n (k + 1) w))
    go rest above true = (above, rest)
    go rest above false = rest

is_among-ones_from : (p n k w : ℕ) → k ≤ p → p < k + n → is_among p (ones_from n k w) ≡ eqb (bit_at w p) 1
is_among-ones_from p zero k w l m = absurd (omega arith)
is_among-ones_from p (suc n) k w l m = at (eqb k p) refl (λ e. is_among-ones_from p n (k + 1) w (omega arith) (omega arith))
  where
    here : k ≡ p → (b : Bool) → eqb (bit_at w k) 1 ≡ b → is_among p (cond b (k ∷ ones_from n (k + 1) w) (ones_from n (k + 1) w)) ≡ b
    here e true f = rw (eq-eqb k p e) refl
    here e false f = below-among p (ones_from n (k + 1) w) (ones_from-above p n (k + 1) w (omega (arith, e)))

    later : eqb k p ≡ false → is_among p (ones_from n (k + 1) w) ≡ eqb (bit_at w p) 1 → (b : Bool) → is_among p (cond b (k ∷ ones_from n (k + 1) w) (ones_from n (k + 1) w)) ≡ eqb (bit_at w p) 1
    later e rest true = rw e rest
    later e rest false = rest

    at : (b : Bool) → eqb k p ≡ b → (k ≢ p → is_among p (ones_from n (k + 1) w) ≡ eqb (bit_at w p) 1) → is_among p (ones_from (suc n) k w) ≡ eqb (bit_at w p) 1
    at true e rest = here (eqb-true k p e) (eqb (bit_at w k) 1) refl ∙ ap (λ q. eqb (bit_at w q) 1) (eqb-true k p e)
    at false e rest = later e (rest (eqb-false k p e)) (eqb (bit_at w k) 1)

pub objects_of-below : (w : ℕ) → AreBelow 128 (objects_of w)
unfolding objects_of
objects_of-below w = ones_from-below 128 128 0 w (omega arith)

pub objects_of-increasing : (w : ℕ) → IsIncreasing (objects_of w)
unfolding objects_of
objects_of-increasing w = ones_from-increasing 128 0 w

pub is_among-objects_of : (p w : ℕ) → p < 128 → is_among p (objects_of w) ≡ eqb (bit_at w p) 1
unfolding objects_of
is_among-objects_of p w l = is_among-ones_from p 128 0 w (omega arith) (omega arith)

not_among : (p : ℕ) (xs : List ℕ) → 128 ≤ p → AreBelow 128 xs → is_among p xs ≡ false
not_among p [] l h = refl
not_among p (x ∷ xs) l h = rw (ne_eqb x p (λ e. absurd (omega (arith, h.0, e)))) (not_among p xs l h.1)

-- a word of 128 bits has no others
is_among-word : (p w : ℕ) → w < 2 ^ 128 → is_among p (objects_of w) ≡ eqb (bit_at w p) 1
is_among-word p w h = go (ltb p 128) refl
  where
    go : (b : Bool) → ltb p 128 ≡ b → is_among p (objects_of w) ≡ eqb (bit_at w p) 1
    go true e = is_among-objects_of p w (ltb-true p 128 e)
    go false e = let l : 128 ≤ p = ltb-false p 128 e in not_among p (objects_of w) l (objects_of-below w) ∙ sym (rw (bit_at_above w 128 p h l) refl)

pub set_below : (w o : ℕ) → w < 2 ^ 128 → bit_or w (1 * 2 ^ o % 2 ^ 128) < 2 ^ 128
set_below w o h = or_lt 128 w (1 * 2 ^ o % 2 ^ 128) h (mod_below (1 * 2 ^ o) (2 ^ 128) (omega arith))

pub objects_of-set : (w o : ℕ) → w < 2 ^ 128 → o < 128 → objects_of (bit_or w (1 * 2 ^ o % 2 ^ 128)) ≡ with_object o (objects_of w)
objects_of-set w o h l = same_objects _ _ (objects_of-increasing _) (with_object-increasing o _ (objects_of-increasing w)) each
  where
    here : (p : ℕ) → (b : Bool) → eqb o p ≡ b → eqb (bit_at (bit_or w (1 * 2 ^ o % 2 ^ 128)) p) 1 ≡ (b || eqb (bit_at w p) 1)
    here p true e = let f : o ≡ p = eqb-true o p e in subst (λ q. eqb (bit_at (bit_or w (1 * 2 ^ o % 2 ^ 128)) q) 1 ≡ true) f (rw (bit_at_set_same w128 w o l) refl)
    here p false e = rw (bit_at_set_other w128 w o l p (λ f. eqb-false o p e (sym f))) refl

    each : (p : ℕ) → is_among p (objects_of (bit_or w (1 * 2 ^ o % 2 ^ 128))) ≡ is_among p (with_object o (objects_of w))
    each p = is_among-word p _ (set_below w o h) ∙ here p (eqb o p) refl ∙ sym (is_among-with_object o p (objects_of w) ∙ ap (λ b. eqb o p || b) (is_among-word p w h))

-- where the bits up to a place are 0, all objects are beyond it
ones_from-beyond : (o n k w : ℕ) → ((i : ℕ) → i ≤ o → bit_at w i ≡ 0) → AllByRecursion (λ x. o < x) (ones_from n k w)
ones_from-beyond o zero k w h = tt
ones_from-beyond o (suc n) k w h = go (ones_from-beyond o n (k + 1) w h) (eqb (bit_at w k) 1) refl (ltb o k) refl
  where
    go : AllByRecursion (λ x. o < x) (ones_from n (k + 1) w) → (b : Bool) → eqb (bit_at w k) 1 ≡ b → (c : Bool) → ltb o k ≡ c
        → AllByRecursion (λ x. o < x) (cond b (k ∷ ones_from n (k + 1) w) (ones_from n (k + 1) w))
    go rest true e true f = (ltb-true o k f, rest)
    go rest true e false f = absurd (omega (arith, h k (ltb-false o k f), eqb-true (bit_at w k) 1 e))
    go rest false e c f = rest

objects_of-beyond : (o w : ℕ) → ((i : ℕ) → i ≤ o → bit_at w i ≡ 0) → AllByRecursion (λ x. o < x) (objects_of w)
unfolding objects_of
objects_of-beyond o w h = ones_from-beyond o 128 0 w h

-- a word without one bit
abbrev without : ℕ → ℕ → ℕ
without w o = bit_and w (bit_not w128 (1 * 2 ^ o % 2 ^ 128))

pub without_below : (w o : ℕ) → w < 2 ^ 128 → without w o < 2 ^ 128
without_below w o h = omega (arith, h, and_le_l w (bit_not w128 (1 * 2 ^ o % 2 ^ 128)))

-- the lowest 1 is the least object, and the word without it has the others
pub objects_of-least : (w : ℕ) → 0 < w → w < 2 ^ 128 → objects_of w ≡ trailing_zeros w128 w ∷ objects_of (without w (trailing_zeros w128 w))
objects_of-least w some h = at (trailing_zeros w128 w) (bit_at-trailing_zeros w128 w some h)
  where
    at : (o : ℕ) → (o < 128) × (bit_at w o ≡ 1) × ((i : ℕ) → i < o → bit_at w i ≡ 0) → objects_of w ≡ o ∷ objects_of (without w o)
    at o t = same_objects _ _ (objects_of-increasing w) (beyond, objects_of-increasing _) each
      where
        zeros : (i : ℕ) → i ≤ o → (b : Bool) → eqb i o ≡ b → bit_at (without w o) i ≡ 0
        zeros i l true e = let f : i ≡ o = eqb-true i o e in rw f (bit_at_clear_same w128 w o t.0)
        zeros i l false e =
            let f : i ≢ o = eqb-false i o e in
            let below : i < o = omega (arith, f, l) in
            bit_at_clear_other w128 w o t.0 i (omega (arith, t.0, l)) f ∙ t.2 i below

        beyond : AllByRecursion (λ x. o < x) (objects_of (without w o))
        beyond = objects_of-beyond o (without w o) (λ i l. zeros i l (eqb i o) refl)

        here : (p : ℕ) → (b : Bool) → eqb o p ≡ b → (c : Bool) → ltb p 128 ≡ c → eqb (bit_at w p) 1 ≡ (b || eqb (bit_at (without w o) p) 1)
        here p true e c l = let f : o ≡ p = eqb-true o p e in subst (λ q. eqb (bit_at w q) 1 ≡ true) f (rw t.1 refl)
        here p false e true l = rw (bit_at_clear_other w128 w o t.0 p (ltb-true p 128 l) (λ f. eqb-false o p e (sym f))) refl
        here p false e false l = let m : 128 ≤ p = ltb-false p 128 l in rw (bit_at_above w 128 p h m, bit_at_above (without w o) 128 p (without_below w o h) m) refl

        each : (p : ℕ) → is_among p (objects_of w) ≡ is_among p (o ∷ objects_of (without w o))
        each p = is_among-word p w h ∙ here p (eqb o p) refl (ltb p 128) refl ∙ sym (ap (λ b. eqb o p || b) (is_among-word p (without w o) (without_below w o h)))

pub objects_of-none : (w : ℕ) → w ≡ 0 → objects_of w ≡ []
unfolding objects_of
objects_of-none w e = rw e refl
