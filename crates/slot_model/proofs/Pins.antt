-- The slot from which a core copies.
use Rattle.std.proofs.Common.{⊎_elim, ◌≡◌, ℕ, Bool, true, false, cond, ltb, eqb, not, List, [], ◌∷◌, Option, Some, None, refl, sym, ap, ◌∙◌}
use Rattle.std.specs.Prelude.{◌&&◌}
use Rattle.std.specs.List.{AllByRecursion}
use Rattle.std.proofs.lemmas.Bool.{eqb-true, eq-eqb, or_right, or_cases, and_parts}
use Rattle.kernel_model.specs.Items.{FinishRecord}
use Rattle.kernel_model.specs.Versions.{Version, chosen}
use Rattle.slot_model.specs.Kept.{Held, chosen_held, is_there, versions_in, with_held, without_slot}

-- what is chosen of the versions is chosen of those held, and is there
pub chosen_there : (hi : Option ℕ) (chain : List Held) (v : Version) → chosen hi (versions_in chain) ≡ Some v → (h : Held) × (chosen_held hi chain ≡ Some h) × (h.version ≡ v) × (is_there h.slot v.writer chain ≡ true)
chosen_there hi [] v e = absurd (cc e)
chosen_there None (h ∷ hs) v e = let same : h.version ≡ v = cc e in (h, refl, same, rw (eq-eqb h.slot h.slot refl, eq-eqb h.version.writer v.writer (ap (λ (x : Version). x.writer) same)) refl)
chosen_there (Some hi) (h ∷ hs) v e = go (chosen_there (Some hi) hs v) (ltb h.version.begin hi) e
  where
    go : (chosen (Some hi) (versions_in hs) ≡ Some v → (h : Held) × (chosen_held (Some hi) hs ≡ Some h) × (h.version ≡ v) × (is_there h.slot v.writer hs ≡ true)) →
        (b : Bool) → cond b (Some h.version) (chosen (Some hi) (versions_in hs)) ≡ Some v → (g : Held) × (cond b (Some h) (chosen_held (Some hi) hs) ≡ Some g) × (g.version ≡ v) × (is_there g.slot v.writer (h ∷ hs) ≡ true)
    go rest true e = let same : h.version ≡ v = cc e in (h, refl, same, rw (eq-eqb h.slot h.slot refl, eq-eqb h.version.writer v.writer (ap (λ (x : Version). x.writer) same)) refl)
    go rest false e = let r = rest e in (r.0, r.1, r.2, or_right (eqb h.slot r.0.slot && eqb h.version.writer v.writer) (is_there r.0.slot v.writer hs) r.3)

-- what is there and must stand is in no spare slot
pub there_apart : (must : Held → Bool) (k slot writer : ℕ) (chain : List Held) → ((h : Held) → h.version.writer ≡ writer → must h ≡ true) → AllByRecursion (λ h. must h ≡ true → h.slot ≡ k → ⊥) chain → is_there slot writer chain ≡ true → slot ≡ k → ⊥
there_apart must k slot writer [] m s e f = cc e
there_apart must k slot writer (h ∷ hs) m s e f = ⊎_elim here (λ g. there_apart must k slot writer hs m s.1 g f) (or_cases (eqb h.slot slot && eqb h.version.writer writer) (is_there slot writer hs) e)
  where
    here : (eqb h.slot slot && eqb h.version.writer writer) ≡ true → ⊥
    here g = let p = and_parts (eqb h.slot slot) (eqb h.version.writer writer) g in s.0 (m h (eqb-true h.version.writer writer p.1)) (eqb-true h.slot slot p.0 ∙ f)

-- it stays there when another slot is given up
there_stays : (k slot writer : ℕ) (hs : List Held) → (slot ≡ k → ⊥) → is_there slot writer hs ≡ true → is_there slot writer (without_slot k hs) ≡ true
there_stays k slot writer [] ne e = e
there_stays k slot writer (h ∷ hs) ne e = go (there_stays k slot writer hs ne) (eqb h.slot k) refl e
  where
    go : (is_there slot writer hs ≡ true → is_there slot writer (without_slot k hs) ≡ true) → (b : Bool) → eqb h.slot k ≡ b → is_there slot writer (h ∷ hs) ≡ true → is_there slot writer (cond (not b) (h ∷ without_slot k hs) (without_slot k hs)) ≡ true
    go rest true f e = rest (⊎_elim (λ g. absurd (let p = and_parts (eqb h.slot slot) (eqb h.version.writer writer) g in ne (sym (eqb-true h.slot slot p.0) ∙ eqb-true h.slot k f))) (λ g. g) (or_cases (eqb h.slot slot && eqb h.version.writer writer) (is_there slot writer hs) e))
    go rest false f e = ⊎_elim (λ g. rw g refl) (λ g. or_right (eqb h.slot slot && eqb h.version.writer writer) (is_there slot writer (without_slot k hs)) (rest g)) (or_cases (eqb h.slot slot && eqb h.version.writer writer) (is_there slot writer hs) e)

-- also when a version joins in a spare slot
pub there_joined : (slot writer : ℕ) (i : FinishRecord) (w : Option (List ℕ)) (k : ℕ) (chain : List Held) → ((words : List ℕ) → w ≡ Some words → slot ≡ k → ⊥) → is_there slot writer chain ≡ true → is_there slot writer (with_held i w k chain) ≡ true
there_joined slot writer i None k chain ne e = e
there_joined slot writer i (Some words) k [] ne e = absurd (cc e)
there_joined slot writer i (Some words) k (h ∷ hs) ne e =
    or_right (eqb k slot && eqb i.number writer) _
    (⊎_elim (λ g. rw g refl) (λ g. or_right (eqb h.slot slot && eqb h.version.writer writer) (is_there slot writer (without_slot k hs)) (there_stays k slot writer hs (ne words refl) g)) (or_cases (eqb h.slot slot && eqb h.version.writer writer) (is_there slot writer hs) e))
