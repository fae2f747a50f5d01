-- What the fields of a chain say of the record that contracts see.
use Rattle.std.proofs.Common.{◌≡◌, ℕ, ◌<◌, ◌≤◌, Bool, true, false, cond, eqb, ◌||◌, ◌&&◌, List, [], ◌∷◌, length, get_or, set, map, Option, Some, None, refl, sym, ap, ◌∙◌, subst, arith}
use Rattle.std.specs.Prelude.{find}
use Rattle.std.specs.List.{list_any}
use Rattle.std.specs.Option.{option_map}
use Rattle.std.proofs.lemmas.Bool.{eqb-true, eqb-false, ne_eqb}
use Rattle.std.proofs.lemmas.List.{length-map}
use Rattle.nv_base.specs.declared.ids.Point.{Point}
use Rattle.kernel_model.specs.Room.{is_below}
use Rattle.ver_table.specs.Chains.{Chain, Place, holds_newest, in_slot, installed, newest_before}
use Rattle.ver_table.specs.Places.{is_taken}
use Rattle.ver_table.specs.Slots.{AreEnded, AreSlots, IsKept, IsLaid, begin_at, stored_at}
use Rattle.ver_table.proofs.Counts.{slots_of}
use Rattle.ver_table.proofs.Installs.{front-slots, others, stored_installed}
use Rattle.ver_table.proofs.Orders.{any_at, find-map, any_below}

slots-map : (begins : List Point) (ends : List (Option Point)) (ks : List ℕ) → slots_of (map (stored_at begins ends) ks) ≡ ks
slots-map begins ends [] = refl
slots-map begins ends (k ∷ ks) = ap (λ (js : List ℕ). k ∷ js) (slots-map begins ends ks)

-- so it is laid out
pub shown : (slots bound : ℕ) (order : List ℕ) (begins : List Point) (ends : List (Option Point)) (t : Chain) → (let c : Chain = record { slots = slots; bound = bound; stored = map (stored_at begins ends) order } in c) ≡ t → IsKept slots order (map (stored_at begins ends) order) → IsLaid t
shown slots bound order begins ends t e kept =
    subst IsLaid e (record {
      few = kept.few;
      some = (let long = length-map order (stored_at begins ends) in omega (arith, long, kept.some));
      are = subst (AreSlots slots) (sym (slots-map begins ends order)) kept.are;
    })

-- and its versions have ended, but the newest
pub shown_ended : (slots bound : ℕ) (order : List ℕ) (begins : List Point) (ends : List (Option Point)) (t : Chain) → (let c : Chain = record { slots = slots; bound = bound; stored = map (stored_at begins ends) order } in c) ≡ t → IsKept slots order (map (stored_at begins ends) order) → AreEnded t.stored
shown_ended slots bound order begins ends t e kept = subst (λ (c : Chain). AreEnded c.stored) e kept.ended

-- a slot that does not hold the newest version is taken where it is in the order, and its version is needed
pub taken_at : (needed : Place → Bool) (begins : List Point) (ends : List (Option Point)) (order : List ℕ) (k : ℕ) (b : Bool) → 1 ≤ length order → (get_or order 0 0 ≡ k → ⊥) → list_any (λ j. eqb j k) order ≡ b
    → is_taken needed (map (stored_at begins ends) order) k ≡ (b && needed (stored_at begins ends k))
taken_at needed begins ends [] k b l n e = absurd (omega (arith, l))
taken_at needed begins ends (k0 ∷ ks) k b l n e =
    let other : eqb k0 k ≡ false = ne_eqb k0 k n in
    let rest : list_any (λ j. eqb j k) ks ≡ b = ap (λ (c : Bool). c || list_any (λ j. eqb j k) ks) (sym other) ∙ e in
    rw other (any_at begins ends needed k ks ∙ ap (λ (c : Bool). c && needed (stored_at begins ends k)) rest)

-- that which holds it is taken
pub taken_first : (needed : Place → Bool) (begins : List Point) (ends : List (Option Point)) (order : List ℕ) (k : ℕ) → 1 ≤ length order → eqb (get_or order 0 0) k ≡ true → is_taken needed (map (stored_at begins ends) order) k ≡ true
taken_first needed begins ends [] k l e = absurd (omega (arith, l))
taken_first needed begins ends (k0 ∷ ks) k l e = rw e refl

-- the version in a slot of the order is what the slot has
slot_there : (begins : List Point) (ends : List (Option Point)) (p : ℕ → Bool) (ks : List ℕ) (j : ℕ) → find p ks ≡ Some j → in_slot j (map (stored_at begins ends) ks) ≡ Some (stored_at begins ends j)
slot_there begins ends p [] j e = absurd (cc e)
slot_there begins ends p (k ∷ ks) j e = at (slot_there begins ends p ks j) (p k) (eqb k j) refl e
  where
    at : (find p ks ≡ Some j → in_slot j (map (stored_at begins ends) ks) ≡ Some (stored_at begins ends j)) → (b c : Bool) → eqb k j ≡ c → cond b (Some k) (find p ks) ≡ Some j →
        cond c (Some (stored_at begins ends k)) (in_slot j (map (stored_at begins ends) ks)) ≡ Some (stored_at begins ends j)
    at rest b true f e = let same : k ≡ j = eqb-true k j f in ap (λ (i : ℕ). Some (stored_at begins ends i)) same
    at rest true false f e = let same : k ≡ j = cc e in absurd (eqb-false k j f same)
    at rest false false f e = rest e

-- the version that is chosen is that of a slot
pub record IsChosenAt (begins : List Point) (ends : List (Option Point)) (hi : Option ℕ) (n : ℕ) (order : List ℕ) (v : Place) : Type 0 where
  pub found : find (λ k. is_below (begin_at begins k) hi) order ≡ Some v.slot
  pub begin_is : begin_at begins v.slot ≡ v.begin
  pub inside : v.slot < n
  pub there : in_slot v.slot (map (stored_at begins ends) order) ≡ Some v

pub chosen_at : (begins : List Point) (ends : List (Option Point)) (hi : Option ℕ) (n : ℕ) (order : List ℕ) → AreSlots n order → (v : Place) → newest_before hi (map (stored_at begins ends) order) ≡ Some v → IsChosenAt begins ends hi n order v
chosen_at begins ends hi n order s v e = at (find (λ k. is_below (begin_at begins k) hi) order) refl (sym (find-map (λ (u : Place). is_below u.begin hi) (stored_at begins ends) order) ∙ e)
  where
    at : (o : Option ℕ) → find (λ k. is_below (begin_at begins k) hi) order ≡ o → option_map (stored_at begins ends) o ≡ Some v → IsChosenAt begins ends hi n order v
    at None f g = absurd (cc g)
    at (Some j) f g =
        let is : stored_at begins ends j ≡ v = cc g in
        let inside : j < n = any_below n (λ k. is_below (begin_at begins k) hi) order s j f in
        subst (IsChosenAt begins ends hi n order) is (record { found = f; begin_is = refl; inside = inside; there = slot_there begins ends (λ k. is_below (begin_at begins k) hi) order j f })

-- the order with a new slot in front is kept
pub kept_front : (n k : ℕ) (order : List ℕ) (old new : List Place) → IsKept n order old → k < n → AreEnded new → IsKept n (k ∷ others k order) new
kept_front n k order old new kept l ended = record { few = kept.few; some = omega arith; are = front-slots n k order l kept.are; ended = ended }

-- the chain with a new version
pub shows_installed : (n bound : ℕ) (order : List ℕ) (begins : List Point) (ends : List (Option Point)) (k : ℕ) (p : Point) → IsKept n order (map (stored_at begins ends) order) → k < n → length begins ≡ 8 → length ends ≡ 8 → eqb (get_or order 0 0) k ≡ false →
    (let c : Chain = record { slots = n; bound = p.0; stored = map (stored_at (set begins k p) (set (set ends (get_or order 0 0) (Some p)) k None)) (k ∷ others k order) } in c)
    ≡ installed k p.0 (record { slots = n; bound = bound; stored = map (stored_at begins ends) order })
shows_installed n bound [] begins ends k p kept l b e o = absurd (omega (arith, kept.some))
shows_installed n bound (k0 ∷ ks) begins ends k p kept l b e o =
    let k0e : k0 < length ends = omega (arith, kept.are.0, kept.few, e) in
    let kb : k < length begins = omega (arith, l, kept.few, b) in
    let ke : k < length ends = omega (arith, l, kept.few, e) in
    ap (λ (vs : List Place). let c : Chain = record { slots = n; bound = p.0; stored = vs } in c) (stored_installed begins ends p k0 k n ks kept.are kb ke k0e o)

-- the slot of the newest version
pub newest_slot : (begins : List Point) (ends : List (Option Point)) (order : List ℕ) (k : ℕ) → 1 ≤ length order → holds_newest k (map (stored_at begins ends) order) ≡ eqb (get_or order 0 0) k
newest_slot begins ends [] k l = absurd (omega (arith, l))
newest_slot begins ends (k0 ∷ ks) k l = refl
