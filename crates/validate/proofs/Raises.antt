-- The interval of a finish is raised by the bounds of what it writes, in whatever order.
use Rattle.std.proofs.Common.{◌≡◌, ℕ, ◌<◌, Bool, true, false, eqb, ◌||◌, List, [], ◌∷◌, map, max, refl, ap, ◌∙◌, subst, arith}
use Rattle.std.proofs.lemmas.Bool.{eqb-true}
use Rattle.object_sets.specs.ObjectSets.{AreBelow, is_among}
use Rattle.kernel_model.specs.Effects.{Write}
use Rattle.kernel_model.specs.Intervals.{Interval}
use Rattle.kernel_model.specs.Bounds.{raised_by}
use Rattle.interval.specs.Ranges.{raised_to}

-- raised by the bounds of some objects, one after another
abbrev pub raised_over : (ℕ → ℕ) → List ℕ → Interval → Interval
raised_over bounds [] i = i
raised_over bounds (o ∷ os) i = raised_over bounds os (raised_to (bounds o) i)

abbrev pub objects_in : List Write → List ℕ
objects_in ws = map (λ w. w.object) ws

-- what is among numbers below n is below n
pub among_below : (n : ℕ) (xs : List ℕ) → AreBelow n xs → (o : ℕ) → is_among o xs ≡ true → o < n
among_below n [] h o e = absurd (cc e)
among_below n (x ∷ xs) h o e = at (among_below n xs h.1 o) (eqb x o) refl e
  where
    at : (is_among o xs ≡ true → o < n) → (b : Bool) → eqb x o ≡ b → (b || is_among o xs) ≡ true → o < n
    at rest true f e = subst (λ (y : ℕ). y < n) (eqb-true x o f) h.0
    at rest false f e = rest e

raised_twice : (p q : ℕ) (i : Interval) → raised_to p (raised_to q i) ≡ raised_to q (raised_to p i)
raised_twice p q i =
    let lo : max p (max q i.lo) ≡ max q (max p i.lo) = omega arith in
    ap (λ (l : ℕ). let j : Interval = record { lo = l; hi = i.hi } in j) lo

-- the bound that comes first may as well come last
raised_last : (bounds : ℕ → ℕ) (os : List ℕ) (p : ℕ) (i : Interval) → raised_over bounds os (raised_to p i) ≡ raised_to p (raised_over bounds os i)
raised_last bounds [] p i = refl
raised_last bounds (o ∷ os) p i = ap (raised_over bounds os) (raised_twice (bounds o) p i) ∙ raised_last bounds os p (raised_to (bounds o) i)

pub raised_is : (bounds : ℕ → ℕ) (ws : List Write) (i : Interval) → raised_over bounds (objects_in ws) i ≡ raised_by bounds ws i
raised_is bounds [] i = refl
raised_is bounds (w ∷ ws) i = raised_last bounds (objects_in ws) (bounds w.object) i ∙ ap (raised_to (bounds w.object)) (raised_is bounds ws i)
