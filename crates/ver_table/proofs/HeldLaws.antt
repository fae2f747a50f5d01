-- What slots hold, and what the model has.
use Rattle.std.proofs.Common.{◌≡◌, ℕ, ◌+◌, Bool, true, false, cond, eqb, ltb, ◌||◌, ◌&&◌, List, [], ◌∷◌, map, Option, Some, None, refl, sym, ap, ap₂, ◌∙◌}
use Rattle.std.specs.Prelude.{find}
use Rattle.std.specs.List.{AllByRecursion, list_any}
use Rattle.std.specs.Option.{option_map}
use Rattle.std.proofs.lemmas.Bool.{or_parts}
use Rattle.interval.specs.declared.version.Pin.{Pin}
use Rattle.kernel_model.specs.Items.{FinishRecord}
use Rattle.kernel_model.specs.Replay.{DeviceState}
use Rattle.kernel_model.specs.Versions.{Version, chosen, older}
use Rattle.kernel_model.specs.Intervals.{Interval}
use Rattle.kernel_model.specs.Cores.{Core}
use Rattle.kernel_model.specs.Room.{count_needed, interval_of, is_below, is_copied_by, is_needed as is_needed_in, meet, meets}
use Rattle.ver_table.specs.Chains.{Place, holds_newest, newest_before}
use Rattle.ver_table.specs.Places.{all_older, count, is_needed, is_pinned, is_taken}
use Rattle.ver_table.specs.StandsFor.{Held, IsSpare, held_before, intervals_of, stored_of, versions_of}
use Rattle.ver_table.proofs.Orders.{find-map}

-- the chosen version is the first that begins before hi
pub chosen-find : (hi : Option ℕ) (vs : List Version) → chosen hi vs ≡ find (λ v. is_below v.begin hi) vs
chosen-find None [] = refl
chosen-find None (v ∷ vs) = refl
chosen-find (Some hi) [] = refl
chosen-find (Some hi) (v ∷ vs) = ap (λ (o : Option Version). cond (ltb v.begin hi) (Some v) o) (chosen-find (Some hi) vs)

-- so it is in the slots
pub held_found : (hi : Option ℕ) (held : List Held) (v : Version) → chosen hi (versions_of held) ≡ Some v → (h : Held) × (held_before hi held ≡ Some h) × (h.version ≡ v)
held_found hi held v e = at (held_before hi held) refl (sym (find-map (λ (u : Version). is_below u.begin hi) (λ (h : Held). h.version) held) ∙ sym (chosen-find hi (versions_of held)) ∙ e)
  where
    at : (o : Option Held) → held_before hi held ≡ o → option_map (λ (h : Held). h.version) o ≡ Some v → (h : Held) × (held_before hi held ≡ Some h) × (h.version ≡ v)
    at None f g = absurd (cc g)
    at (Some h) f g = (h, f, cc g)

-- and in the table
pub stored_found : (hi : Option ℕ) (held : List Held) (h : Held) → held_before hi held ≡ Some h → newest_before hi (map stored_of held) ≡ Some (stored_of h)
stored_found hi held h e = find-map (λ (u : Place). is_below u.begin hi) stored_of held ∙ ap (option_map stored_of) e

-- one of two tests
pub any-or : {A : Type 0} → (p q : A → Bool) (xs : List A) → list_any (λ x. p x || q x) xs ≡ (list_any p xs || list_any q xs)
any-or p q [] = refl
any-or {A} p q (x ∷ xs) = at (p x) (q x) (list_any p xs) (list_any q xs) (any-or p q xs)
  where
    at : (a b c d : Bool) → list_any (λ x. p x || q x) xs ≡ (c || d) → ((a || b) || list_any (λ x. p x || q x) xs) ≡ ((a || c) || (b || d))
    at true b c d e = refl
    at false true true d e = refl
    at false true false d e = refl
    at false false c d e = e

-- the cores' intervals are those that they have
any-intervals : {M : Type 0} → (base : DeviceState) (history : List FinishRecord) (v : Version) (cores : List (Core M)) → list_any (meet v) (intervals_of base history cores) ≡ list_any (λ c. meets v (interval_of base history c)) cores
any-intervals base history v [] = refl
any-intervals {M} base history v (c ∷ cores) = at (interval_of base history c) (any-intervals base history v cores)
  where
    at : (i : Option Interval) → list_any (meet v) (intervals_of base history cores) ≡ list_any (λ c. meets v (interval_of base history c)) cores →
        list_any (meet v) (elim i [ None ↦ intervals_of base history cores | Some j ↦ j ∷ intervals_of base history cores ]) ≡ (meets v i || list_any (λ c. meets v (interval_of base history c)) cores)
    at None e = e
    at (Some j) e = ap (λ (b : Bool). meet v j || b) e

-- what a slot holds is needed by the table's word where it is by the model's
pub need_of : {M : Type 0} → (base : DeviceState) (history : List FinishRecord) (o : ℕ) (cores : List (Core M)) (others : List Interval) (pins : List Pin) (h : Held) → others ≡ intervals_of base history cores → is_pinned o pins h.slot ≡ list_any (is_copied_by o h.version) cores
    → is_needed o others pins (stored_of h) ≡ is_needed_in base history o cores h.version
need_of base history o cores others pins h e p =
    ap₂ (λ (a b : Bool). a || b) p (ap (list_any (meet h.version)) e ∙ any-intervals base history h.version cores)
    ∙ sym (any-or (is_copied_by o h.version) (λ c. meets h.version (interval_of base history c)) cores)

pub needs_of : {M : Type 0} → (base : DeviceState) (history : List FinishRecord) (o : ℕ) (cores : List (Core M)) (others : List Interval) (pins : List Pin) (held : List Held) → others ≡ intervals_of base history cores → AllByRecursion (λ h. is_pinned o pins h.slot ≡ list_any (is_copied_by o h.version) cores) held
    → AllByRecursion (λ h. is_needed o others pins (stored_of h) ≡ is_needed_in base history o cores h.version) held
needs_of base history o cores others pins [] e p = tt
needs_of base history o cores others pins (h ∷ held) e p = (need_of base history o cores others pins h e p.0, needs_of base history o cores others pins held e p.1)

count_held : {M : Type 0} → (base : DeviceState) (history : List FinishRecord) (o : ℕ) (cores : List (Core M)) (needed : Place → Bool) (held : List Held) → AllByRecursion (λ h. needed (stored_of h) ≡ is_needed_in base history o cores h.version) held
    → count needed (map stored_of held) ≡ count_needed base history o cores (versions_of held)
count_held base history o cores needed [] n = refl
count_held base history o cores needed (h ∷ held) n =
    let rest = count_held base history o cores needed held n.1 in
    ap₂ (λ (b : Bool) (m : ℕ). cond b (m + 1) m) n.0 rest

-- the older versions that are needed are as many
pub count_older : {M : Type 0} → (base : DeviceState) (history : List FinishRecord) (o : ℕ) (cores : List (Core M)) (needed : Place → Bool) (held : List Held) → AllByRecursion (λ h. needed (stored_of h) ≡ is_needed_in base history o cores h.version) held
    → count needed (all_older (map stored_of held)) ≡ count_needed base history o cores (older (versions_of held))
count_older base history o cores needed [] n = refl
count_older base history o cores needed (h ∷ held) n = count_held base history o cores needed held n.1

and-false : (a b : Bool) → a ≡ true → (a && b) ≡ false → b ≡ false
and-false true b f e = e
and-false false b f e = absurd (cc f)

-- what a slot that is not taken holds is not needed
spare_rest : {M : Type 0} → (base : DeviceState) (history : List FinishRecord) (o : ℕ) (cores : List (Core M)) (needed : Place → Bool) (k : ℕ) (held : List Held) → AllByRecursion (λ h. needed (stored_of h) ≡ is_needed_in base history o cores h.version) held
    → list_any (λ (u : Place). eqb u.slot k && needed u) (map stored_of held) ≡ false → IsSpare base history o cores k held
spare_rest base history o cores needed k [] n e = tt
spare_rest base history o cores needed k (h ∷ held) n e =
    let s = or_parts (eqb h.slot k && needed (stored_of h)) (list_any (λ (u : Place). eqb u.slot k && needed u) (map stored_of held)) e in
    (λ g. sym n.0 ∙ and-false (eqb h.slot k) (needed (stored_of h)) g s.0, spare_rest base history o cores needed k held n.1 s.1)

pub spare_of_free : {M : Type 0} → (base : DeviceState) (history : List FinishRecord) (o : ℕ) (cores : List (Core M)) (needed : Place → Bool) (k : ℕ) (held : List Held) → AllByRecursion (λ h. needed (stored_of h) ≡ is_needed_in base history o cores h.version) held
    → is_taken needed (map stored_of held) k ≡ false → (holds_newest k (map stored_of held) ≡ false) × IsSpare base history o cores k held
spare_of_free base history o cores needed k [] n e = (refl, tt)
spare_of_free base history o cores needed k (h ∷ held) n e =
    let s = or_parts (eqb h.slot k) (list_any (λ (u : Place). eqb u.slot k && needed u) (map stored_of held)) e in
    (s.0, (λ g. absurd (let a = s.0 in cc (a, g)), spare_rest base history o cores needed k held n.1 s.1))
