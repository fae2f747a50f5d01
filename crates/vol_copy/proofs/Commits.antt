-- The writes of an attempt as the writer of a commit lists them, object by object.
use Rattle.std.proofs.Common.{◌≡◌, ℕ, zero, suc, ◌+◌, ◌<◌, ◌≤◌, Bool, true, false, cond, eqb, ne_eqb, ◌||◌, List, [], ◌∷◌, length, refl, sym, ap, ap₂, ◌∙◌, arith}
use Rattle.std.specs.List.{AllByRecursion}
use Rattle.std.proofs.lemmas.Bool.{eqb-true, eqb-false}
use Rattle.object_sets.specs.ObjectSets.{IsIncreasing, is_among}
use Rattle.object_sets.proofs.ForCallers.{below-among}
use Rattle.kernel_model.specs.Effects.{Objects, Write, object_words}
use Rattle.set_model.specs.Sets.{TaskSet, object_at}
use Rattle.device_model.specs.Commits.{writes_by}
use Rattle.vol_copy.specs.declared.attempt.Attempt.{Attempt}
use Rattle.vol_copy.specs.Tries.{IsFor, writes_in}

-- tests that agree from number o on
by-same : (p q : ℕ → Bool) (words : ℕ → List ℕ) (o n : ℕ) → ((k : ℕ) → o ≤ k → p k ≡ q k) → writes_by p words o n ≡ writes_by q words o n
by-same p q words o zero h = refl
by-same p q words o (suc n) h =
    ap₂ (λ b rest. cond b (let w : Write = record { object = o; words = words o } in w ∷ rest) rest) (h o (omega arith)) (by-same p q words (o + 1) n (λ k l. h k (omega (arith, l))))

after : (o x : ℕ) (xs : List ℕ) → o ≤ x → AllByRecursion (λ y. x < y) xs → AllByRecursion (λ y. o < y) xs
after o x [] l h = tt
after o x (y ∷ ys) l h = (omega (arith, l, h.0), after o x ys l h.1)

from : (o : ℕ) (xs : List ℕ) → AllByRecursion (λ y. o < y) xs → AllByRecursion (λ y. o + 1 ≤ y) xs
from o [] h = tt
from o (x ∷ xs) h = (omega (arith, h.0), from o xs h.1)

-- the objects from number o on, where all that are written are among them
by-table : (table : Objects) (top : ℕ) (xs : List ℕ) (o n : ℕ) → o + n ≡ top → IsIncreasing xs → AllByRecursion (λ x. o ≤ x) xs → AllByRecursion (λ x. x < top) xs
    → writes_in xs table ≡ writes_by (λ k. is_among k xs) (object_words table) o n
by-table table top [] o zero e i low high = refl
by-table table top (x ∷ xs) o zero e i low high = absurd (omega (arith, e, low.0, high.0))
by-table table top [] o (suc n) e i low high = by-table table top [] (o + 1) n (omega (arith, e)) tt tt tt
by-table table top (x ∷ xs) o (suc n) e i low high =
    at (λ l. by-table table top xs (o + 1) n (omega (arith, e)) i.1 l high.1) (λ l. by-table table top (x ∷ xs) (o + 1) n (omega (arith, e)) i l high) (eqb x o) refl
  where
    words : ℕ → List ℕ
    words = object_words table

    all : ℕ → Bool
    all k = is_among k (x ∷ xs)

    later : AllByRecursion (λ y. o < y) xs
    later = after o x xs low.0 i.0

    at : (AllByRecursion (λ y. o + 1 ≤ y) xs → writes_in xs table ≡ writes_by (λ k. is_among k xs) words (o + 1) n)
        → (AllByRecursion (λ y. o + 1 ≤ y) (x ∷ xs) → writes_in (x ∷ xs) table ≡ writes_by all words (o + 1) n)
        → (b : Bool) → eqb x o ≡ b → writes_in (x ∷ xs) table ≡ cond (b || is_among o xs) (record { object = o; words = words o } ∷ writes_by all words (o + 1) n) (writes_by all words (o + 1) n)
    at rest same true f =
        let is : x ≡ o = eqb-true x o f in
        ap₂ (λ k r. let w : Write = record { object = k; words = words k } in w ∷ r) is
        (rest (from o xs later) ∙ by-same (λ k. is_among k xs) all words (o + 1) n (λ k l. ap (λ b. b || is_among k xs) (sym (ne_eqb x k (λ g. omega (arith, is, g, l))))))
    at rest same false f =
        let ne : x ≡ o → ⊥ = eqb-false x o f in
        same (omega (arith, low.0, ne), from o xs later)
        ∙ ap (λ b. cond b (let w : Write = record { object = o; words = words o } in w ∷ writes_by all words (o + 1) n) (writes_by all words (o + 1) n)) (sym (below-among o xs later))

all-from : (xs : List ℕ) → AllByRecursion (λ x. 0 ≤ x) xs
all-from [] = tt
all-from (x ∷ xs) = (omega arith, all-from xs)

pub words_written : (s : TaskSet) (a : Attempt) → IsFor s a → writes_in a.written a.words ≡ writes_by (λ o. is_among o a.written) (object_words a.words) 0 (length s.objects)
words_written s a h = by-table a.words (length s.objects) a.written 0 (length s.objects) (omega arith) h.increasing (all-from a.written) h.written

pub sizes_written : (s : TaskSet) (a : Attempt) → IsFor s a → (o : ℕ) → o < length s.objects → length (object_words a.words o) ≡ (object_at s o).size
sizes_written s a h o l = h.words.sizes o (omega (arith, l, h.words.number))
