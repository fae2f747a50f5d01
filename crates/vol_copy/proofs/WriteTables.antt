-- Writes by the objects that were written and a table of their words.
use Rattle.std.proofs.Common.{◌≡◌, ℕ, ◌<◌, ◌≤◌, Bool, true, false, cond, eqb, ltb, ◌||◌, List, [], ◌∷◌, length, set, Option, Some, None, refl, sym, ap, ap₂, subst, ◌∙◌, arith, get_or-set_same, get_or-set_other}
use Rattle.std.specs.List.{AllByRecursion}
use Rattle.std.proofs.lemmas.Bool.{eqb-true, eqb-false, ltb-true, ltb-false}
use Rattle.object_sets.specs.ObjectSets.{AreBelow, inserted, is_among, with_object, IsIncreasing}
use Rattle.object_sets.proofs.ForCallers.{among-all, below-among}
use Rattle.nv_base.specs.declared.limits.TheConstants.{MAX_OBJECTS}
use Rattle.kernel_model.specs.Effects.{Objects, Write, also_written, object_words, with_write, written}
use Rattle.vol_copy.specs.Received.{words_with, written_with}
use Rattle.vol_copy.specs.Tries.{writes_in}

-- no object of a set has the number of the limit, or a greater one
pub not_among : (o : ℕ) (xs : List ℕ) → AreBelow MAX_OBJECTS xs → MAX_OBJECTS ≤ o → is_among o xs ≡ false
not_among o xs h l = go (is_among o xs) refl
  where
    go : (b : Bool) → is_among o xs ≡ b → b ≡ false
    go true e = let low : o < MAX_OBJECTS = among-all (λ x. x < MAX_OBJECTS) o xs h e in absurd (omega (arith, low, l))
    go false e = refl

-- what was written to an object
pub written-table : (xs : List ℕ) (table : Objects) (o : ℕ) → written (writes_in xs table) o ≡ cond (is_among o xs) (Some (object_words table o)) None
written-table [] table o = refl
written-table (x ∷ xs) table o = at (eqb x o) refl (written-table xs table o)
  where
    at : (b : Bool) → eqb x o ≡ b → written (writes_in xs table) o ≡ cond (is_among o xs) (Some (object_words table o)) None
        → cond b (Some (object_words table x)) (written (writes_in xs table) o) ≡ cond (b || is_among o xs) (Some (object_words table o)) None
    at true e rest = ap (λ p. Some (object_words table p)) (eqb-true x o e)
    at false e rest = rest

-- new words of an object leave the writes of those behind it
stays : (o : ℕ) (new : List ℕ) (table : Objects) (xs : List ℕ) → AllByRecursion (λ y. o < y) xs → writes_in xs table ≡ writes_in xs (set table o new)
stays o new table [] h = refl
stays o new table (x ∷ xs) h =
    ap₂ (λ words rest. let w : Write = record { object = x; words = words } in w ∷ rest) (sym (get_or-set_other table o x new [] (λ e. omega (arith, h.0, e)))) (stays o new table xs h.1)

lower : (p q : ℕ) (xs : List ℕ) → p < q → AllByRecursion (λ y. q < y) xs → AllByRecursion (λ y. p < y) xs
lower p q [] l h = tt
lower p q (x ∷ xs) l h = (omega (arith, l, h.0), lower p q xs l h.1)

-- one more write
pub writes-more : (o : ℕ) (new : List ℕ) (table : Objects) (xs : List ℕ) → o < length table → IsIncreasing xs
    → with_write (record { object = o; words = new }) (writes_in xs table) ≡ writes_in (with_object o xs) (set table o new)
writes-more o new table [] l h = ap (λ words. let w : Write = record { object = o; words = words } in w ∷ []) (sym (get_or-set_same table o new [] l))
writes-more o new table (x ∷ xs) l h = at (writes-more o new table xs l h.1) (ltb x o) refl (eqb x o) refl (ltb o x) refl
  where
    w : Write
    w = record { object = o; words = new }

    old : ℕ → Write
    old y = record { object = y; words = object_words table y }

    then : ℕ → Write
    then y = record { object = y; words = object_words (set table o new) y }

    other : (y : ℕ) → (y ≡ o → ⊥) → old y ≡ then y
    other y ne = ap (λ words. let v : Write = record { object = y; words = words } in v) (sym (get_or-set_other table o y new [] ne))

    same : w ≡ then o
    same = ap (λ words. let v : Write = record { object = o; words = words } in v) (sym (get_or-set_same table o new [] l))

    behind : (b : Bool) → x ∷ cond b xs (inserted o xs) ≡ cond b (x ∷ xs) (x ∷ inserted o xs)
    behind true = refl
    behind false = refl

    at : with_write w (writes_in xs table) ≡ writes_in (with_object o xs) (set table o new)
        → (b : Bool) → ltb x o ≡ b → (c : Bool) → eqb x o ≡ c → (d : Bool) → ltb o x ≡ d
        → cond b (old x ∷ with_write w (writes_in xs table)) (cond c (w ∷ writes_in xs table) (w ∷ old x ∷ writes_in xs table))
        ≡ writes_in (cond (c || is_among o xs) (x ∷ xs) (cond d (o ∷ x ∷ xs) (x ∷ inserted o xs))) (set table o new)
    at rest true e true f d g = absurd (omega (arith, ltb-true _ _ e, eqb-true _ _ f))
    at rest true e false f true g = absurd (omega (arith, ltb-true _ _ e, ltb-true _ _ g))
    at rest true e false f false g = ap₂ (λ v r. v ∷ r) (other x (eqb-false _ _ f)) rest ∙ ap (λ ys. writes_in ys (set table o new)) (behind (is_among o xs))
    at rest false e true f d g =
        let is : x ≡ o = eqb-true _ _ f in
        ap₂ (λ v r. v ∷ r) (same ∙ ap then (sym is)) (stays o new table xs (subst (λ p. AllByRecursion (λ y. p < y) xs) is h.0))
    at rest false e false f false g = absurd (let a : o ≤ x = ltb-false _ _ e in let b : x ≤ o = ltb-false _ _ g in let n : x ≡ o → ⊥ = eqb-false _ _ f in omega (arith, a, b, n))
    at rest false e false f true g =
        let less : o < x = ltb-true _ _ g in
        let all : AllByRecursion (λ y. o < y) xs = lower o x xs less h.0 in
        let none : is_among o xs ≡ false = below-among o xs all in
        ap₂ (λ v r. v ∷ r) same (ap₂ (λ v r. v ∷ r) (other x (eqb-false _ _ f)) (stays o new table xs all))
        ∙ ap (λ b. writes_in (cond b (x ∷ xs) (o ∷ x ∷ xs)) (set table o new)) (sym none)

-- the writes with new words of an object, if there are some
pub writes-with : (o : ℕ) (new : Option (List ℕ)) (table : Objects) (xs : List ℕ) (ws : List Write) → o < length table → IsIncreasing xs → ws ≡ writes_in xs table
    → also_written o new ws ≡ writes_in (written_with xs o new) (words_with table o new)
writes-with o None table xs ws l h e = e
writes-with o (Some new) table xs ws l h e = ap (with_write (record { object = o; words = new })) e ∙ writes-more o new table xs l h
