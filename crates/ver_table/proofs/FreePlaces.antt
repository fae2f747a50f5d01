-- The table's free slot is that of the table machine.
use Rattle.std.proofs.Common.{◌≡◌, ℕ, zero, suc, ◌+◌, ◌<◌, ◌≤◌, Bool, true, false, cond, eqb, ◌||◌, ◌&&◌, List, [], ◌∷◌, Option, Some, None, refl, sym, ap, ap₂, ◌∙◌, arith}
use Rattle.std.specs.Prelude.{is_none}
use Rattle.std.specs.List.{AllByRecursion, list_any}
use Rattle.std.proofs.lemmas.Bool.{eqb-true, eqb-false}
use Rattle.interval.specs.declared.version.Pin as own_pin
use Rattle.kernel_model.specs.Intervals.{Interval}
use Rattle.slot_model.specs.Places.{free_from}
use Rattle.slot_model.specs.Tabled.{Pin, Place, View, free_place, is_copied_from, is_needed_at, is_taken_at, meets_at}
use Rattle.ver_table.specs.Chains.{Chain}
use Rattle.ver_table.specs.Places.{IsFreeSlot, has_place, is_needed, is_taken}
use Rattle.ver_table.specs.Slots.{AreEnded, IsLaid}
use Rattle.ver_table.specs.Tabled.{AreViews, pin_in, pins_of, with_pin}
use Rattle.ver_table.proofs.Counts.{place_of_free}
use Rattle.ver_table.proofs.HeldLaws.{any-or}
use Rattle.ver_table.proofs.Orders.{any-map}

copied_by_pins : (o : ℕ) (p : Place) (views : List View) → list_any (λ (v : View). is_copied_from o p v.copying) views ≡ list_any (λ (q : Pin). eqb q.object o && eqb q.slot p.slot) (pins_of views)
copied_by_pins o p [] = refl
copied_by_pins o p (v ∷ views) = at v.copying (copied_by_pins o p views)
  where
    at : (c : Option Pin) → list_any (λ (v : View). is_copied_from o p v.copying) views ≡ list_any (λ (q : Pin). eqb q.object o && eqb q.slot p.slot) (pins_of views)
        → (is_copied_from o p c || list_any (λ (v : View). is_copied_from o p v.copying) views) ≡ list_any (λ (q : Pin). eqb q.object o && eqb q.slot p.slot) (with_pin c (pins_of views))
    at None e = e
    at (Some q) e = ap (λ (b : Bool). (eqb q.object o && eqb q.slot p.slot) || b) e

-- the attempts need the same
pub needed_is : (o : ℕ) (views : List View) (others : List Interval) (pins : List own_pin.Pin) → AreViews views others pins → (p : Place) → is_needed_at o views p ≡ is_needed o others pins p
needed_is o views others pins h p =
    any-or (λ (v : View). is_copied_from o p v.copying) (λ (v : View). meets_at p v.interval) views
    ∙ ap₂ (λ (x y : Bool). x || y)
    (copied_by_pins o p views ∙ ap (list_any (λ (q : Pin). eqb q.object o && eqb q.slot p.slot)) h.pins_are ∙ any-map (λ (q : Pin). eqb q.object o && eqb q.slot p.slot) pin_in pins)
    (sym (any-map (meets_at p) (λ (v : View). v.interval) views) ∙ ap (list_any (meets_at p)) h.intervals_are)

-- and the same slots are taken
pub taken_is : (o : ℕ) (views : List View) (others : List Interval) (pins : List own_pin.Pin) → AreViews views others pins → (vs : List Place) → AreEnded vs → (k : ℕ) → is_taken_at o views vs k ≡ is_taken (is_needed o others pins) vs k
taken_is o views others pins h [] e k = refl
taken_is o views others pins h (v ∷ vs) e k =
    ap₂ (λ (x y : Bool). x || y) (ap (λ (x : Option ℕ). eqb v.slot k && (is_none x || is_needed_at o views v)) e.0 ∙ alone (eqb v.slot k)) (older vs e.1)
  where
    alone : (b : Bool) → (b && true) ≡ b
    alone true = refl
    alone false = refl

    older : (us : List Place) → AllByRecursion (λ u. is_none u.end ≡ false) us → list_any (λ (u : Place). eqb u.slot k && (is_none u.end || is_needed_at o views u)) us ≡ list_any (λ (u : Place). eqb u.slot k && is_needed o others pins u) us
    older [] e = refl
    older (u ∷ us) e =
        ap₂ (λ (x y : Bool). x || y)
        (ap (λ (b : Bool). eqb u.slot k && (b || is_needed_at o views u)) e.0 ∙ ap (λ (b : Bool). eqb u.slot k && b) (needed_is o views others pins h u))
        (older us e.1)

-- the least free slot from k on
least_from : (k n : ℕ) (taken : ℕ → Bool) (x : ℕ) → k ≤ x → x < k + n → taken x ≡ false → ((j : ℕ) → j < x → taken j ≡ true) → free_from k n taken ≡ Some x
least_from k zero taken x low high free least = absurd (omega (arith, low, high))
least_from k (suc n) taken x low high free least = at (eqb k x) refl (λ l. least_from (k + 1) n taken x l (omega (arith, high)) free least)
  where
    at : (b : Bool) → eqb k x ≡ b → (k + 1 ≤ x → free_from (k + 1) n taken ≡ Some x) → cond (taken k) (free_from (k + 1) n taken) (Some k) ≡ Some x
    at true e rest = let same : k ≡ x = eqb-true k x e in let here : taken k ≡ false = ap taken same ∙ free in rw here (ap (λ (j : ℕ). Some j) same)
    at false e rest = let other : k ≡ x → ⊥ = eqb-false k x e in let here : taken k ≡ true = least k (omega (arith, low, other)) in rw here (rest (omega (arith, low, other)))

none_from : (k n : ℕ) (taken : ℕ → Bool) → ((j : ℕ) → j < k + n → taken j ≡ true) → free_from k n taken ≡ None
none_from k zero taken all = refl
none_from k (suc n) taken all = let here : taken k ≡ true = all k (omega arith) in rw here (none_from (k + 1) n taken (λ j l. all j (omega (arith, l))))

-- a slot is taken, where there is no place
all_taken : (needed : Place → Bool) (c : Chain) → IsLaid c → has_place needed c ≡ false → (k : ℕ) → k < c.slots → is_taken needed c.stored k ≡ true
all_taken needed c laid e k l = at (is_taken needed c.stored k) refl
  where
    at : (b : Bool) → is_taken needed c.stored k ≡ b → b ≡ true
    at true f = refl
    at false f = absurd (let some : true ≡ false = sym (place_of_free needed c laid.some laid.are k l f) ∙ e in cc some)

-- what a search in the table answers is the table machine's free slot
pub free_is : (o : ℕ) (views : List View) (others : List Interval) (pins : List own_pin.Pin) (c : Chain) (r : Option ℕ) → IsLaid c → AreEnded c.stored → AreViews views others pins → IsFreeSlot (is_needed o others pins) c r → free_place c.slots o views c.stored ≡ r
free_is o views others pins c None laid ended h none =
    none_from 0 c.slots (is_taken_at o views c.stored) (λ j l. taken_is o views others pins h c.stored ended j ∙ all_taken (is_needed o others pins) c laid none j (omega (arith, l)))
free_is o views others pins c (Some k) laid ended h some =
    least_from 0 c.slots (is_taken_at o views c.stored) k (omega arith) (omega (arith, some.1.inside)) (taken_is o views others pins h c.stored ended k ∙ some.1.free)
    (λ j l. taken_is o views others pins h c.stored ended j ∙ some.1.least j l)
