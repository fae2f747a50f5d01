-- A free slot of the table, as the table machine has it.
use Rattle.std.proofs.Common.{◌≡◌, ℕ, ◌<◌, Bool, true, false, List, [], ◌∷◌, length, map, set, eqb, ◌&&◌, ◌||◌, Some, None, refl, sym, ◌∙◌, subst, ap, get_or-set_same, get_or-set_other}
use Rattle.std.specs.Prelude.{slice_index}
use Rattle.std.specs.List.{list_any}
use Rattle.std.proofs.lemmas.Bool.{eqb-true, eqb-false, or_parts}
use Rattle.object_sets.specs.ObjectSets.{is_among}
use Rattle.interval.specs.Ranges.{range_of}
use Rattle.interval.specs.declared.ranges.Interval as own
use Rattle.interval.specs.declared.version.Pin.{Pin}
use Rattle.kernel_model.specs.Intervals.{Interval}
use Rattle.slot_model.specs.Tabled.{Place, View}
use Rattle.ver_table.specs.Chains.{Chain, chain_at, holds_newest}
use Rattle.ver_table.specs.Places.{IsFreeSlot, is_needed, is_taken}
use Rattle.ver_table.specs.Slots.{AreEnded, IsLaid}
use Rattle.ver_table.specs.Tabled.{AreViews}
use Rattle.ver_table.proofs.FreePlaces.{free_is}
use Rattle.validate.specs.Plans.{IsFreeIn, free_in}

-- a slot that is not taken does not hold the newest version
not_newest : (needed : Place → Bool) (vs : List Place) (k : ℕ) → is_taken needed vs k ≡ false → holds_newest k vs ≡ false
not_newest needed [] k e = refl
not_newest needed (v ∷ vs) k e = (or_parts (eqb v.slot k) (list_any (λ (u : Place). eqb u.slot k && needed u) vs) e).0

-- a slot that was found
pub slot_found : (chains : List Chain) (views : List View) (others : List Interval) (pins : List Pin) (o k : ℕ) → IsLaid (chain_at chains o) → AreEnded (chain_at chains o).stored → AreViews views others pins
    → IsFreeSlot (is_needed o others pins) (chain_at chains o) (Some k) → IsFreeIn chains views o k
slot_found chains views others pins o k laid ended h s = record {
  free = free_is o views others pins (chain_at chains o) (Some k) laid ended h s;
  inside = s.1.inside;
  older = not_newest (is_needed o others pins) (chain_at chains o).stored k s.1.free;
}

-- and none
pub none_found : (chains : List Chain) (views : List View) (others : List Interval) (pins : List Pin) (o : ℕ) → IsLaid (chain_at chains o) → AreEnded (chain_at chains o).stored → AreViews views others pins
    → IsFreeSlot (is_needed o others pins) (chain_at chains o) None → free_in chains views o ≡ None
none_found chains views others pins o laid ended h s = free_is o views others pins (chain_at chains o) None laid ended h s

-- one slot more is found
pub one_slot_more : (chains : List Chain) (views : List View) (left all slots : List ℕ) (o k j : ℕ) → o < length slots → all ≡ o ∷ left → (is_among j all ≡ false → IsFreeIn chains views j (slice_index slots j)) → IsFreeIn chains views o k
    → is_among j left ≡ false → IsFreeIn chains views j (slice_index (set slots o k) j)
one_slot_more chains views left all slots o k j l e before here gone = at (eqb o j) refl
  where
    at : (b : Bool) → eqb o j ≡ b → IsFreeIn chains views j (slice_index (set slots o k) j)
    at true f =
        subst (λ (m : ℕ). IsFreeIn chains views m (slice_index (set slots o k) m)) (eqb-true o j f) (subst (IsFreeIn chains views o) (sym (get_or-set_same slots o k 0 l)) here)
    at false f =
        let other : j ≡ o → ⊥ = λ g. eqb-false o j f (sym g) in
        subst (IsFreeIn chains views j) (sym (get_or-set_other slots o j k 0 other)) (before (ap (is_among j) e ∙ ap (λ b. b || is_among j left) f ∙ gone))

-- the same of what the lists are read as
pub views_moved : (views : List View) (is js : List own.Interval) (ps qs : List Pin) → AreViews views (map range_of is) ps → js ≡ is → qs ≡ ps → AreViews views (map range_of js) qs
views_moved views is js ps qs h e f = subst (λ (xs : List own.Interval). AreViews views (map range_of xs) qs) (sym e) (subst (λ (xs : List Pin). AreViews views (map range_of is) xs) (sym f) h)
