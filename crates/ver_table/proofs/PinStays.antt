-- A pin names its version from the read on, while a core copies it.
use Rattle.std.proofs.Common.{◌≡◌, ℕ, Bool, true, false, cond, eqb, not, ◌||◌, ◌&&◌, List, [], ◌∷◌, get_or, map, Option, Some, None, refl, sym, ap, ◌∙◌, subst}
use Rattle.std.specs.Prelude.{find}
use Rattle.std.proofs.lemmas.Bool.{eqb-true, eqb-false, eq-eqb, ne_eqb}
use Rattle.object_sets.specs.ObjectSets.{is_among}
use Rattle.interval.specs.declared.version.Pin.{Pin}
use Rattle.kernel_model.specs.Effects.{written}
use Rattle.kernel_model.specs.Items.{FinishRecord}
use Rattle.kernel_model.specs.Replay.{DeviceState}
use Rattle.kernel_model.specs.Versions.{Read, Version}
use Rattle.kernel_model.specs.Cores.{Attempt, Copying, Core, Idle}
use Rattle.kernel_model.specs.Room.{interval_of, is_needed, is_newest_read, meets}
use Rattle.kernel_model.proofs.ForCallers.{at_needed}
use Rattle.ver_table.specs.Chains.{Chain, Place}
use Rattle.ver_table.specs.Slots.{AreSlots, IsLaid}
use Rattle.ver_table.specs.StandsFor.{Held, IsHeldAs, IsPinOf, IsPlanned, IsPlannedFor, IsUnneeded, StandsFor, held_after, held_ended, held_in, held_joining, held_with, held_without}
use Rattle.ver_table.proofs.PinLaws.{slots_held, slots_stored}

-- what is not among the slots is another slot than that of one that is found
found_among : (p : Held → Bool) (held : List Held) (h : Held) → find p held ≡ Some h → is_among h.slot (slots_held held) ≡ true
found_among p [] h e = absurd (cc e)
found_among p (x ∷ held) h e = at (found_among p held h) (p x) e
  where
    any : (b : Bool) → (b || true) ≡ true
    any true = refl
    any false = refl

    at : (find p held ≡ Some h → is_among h.slot (slots_held held) ≡ true) → (b : Bool) → cond b (Some x) (find p held) ≡ Some h → (eqb x.slot h.slot || is_among h.slot (slots_held held)) ≡ true
    at rest true e = let same : x ≡ h = cc e in ap (λ (b : Bool). b || is_among h.slot (slots_held held)) (eq-eqb x.slot h.slot (ap (λ (y : Held). y.slot) same))
    at rest false e = ap (λ (b : Bool). eqb x.slot h.slot || b) (rest e) ∙ any (eqb x.slot h.slot)

-- what is found is found by its slot
found_in : (n : ℕ) (p : Held → Bool) (held : List Held) (h : Held) → AreSlots n (slots_held held) → find p held ≡ Some h → held_in h.slot held ≡ Some h
found_in n p [] h s e = absurd (cc e)
found_in n p (x ∷ held) h s e = at (found_in n p held h s.2) (p x) (eqb x.slot h.slot) refl e
  where
    at : (find p held ≡ Some h → held_in h.slot held ≡ Some h) → (b c : Bool) → eqb x.slot h.slot ≡ c → cond b (Some x) (find p held) ≡ Some h → cond c (Some x) (held_in h.slot held) ≡ Some h
    at rest true true f e = e
    at rest true false f e = let same : x ≡ h = cc e in absurd (eqb-false x.slot h.slot f (ap (λ (y : Held). y.slot) same))
    at rest false true f e =
        let slot : x.slot ≡ h.slot = eqb-true x.slot h.slot f in
        let among : is_among x.slot (slots_held held) ≡ true = ap (λ (k : ℕ). is_among k (slots_held held)) slot ∙ found_among p held h e in
        absurd (let other = s.1 in cc (among, other))
    at rest false false f e = rest e

pub pin_chosen : (base : DeviceState) (floor o : ℕ) (history : List FinishRecord) (needed : Version → Bool) (hi : Option ℕ) (c : Chain) (held : List Held) (v : Version) (h : Held) (p : Pin) → IsLaid c → StandsFor floor needed base o history c held
    → IsHeldAs floor hi c held v h → p.object.0 ≡ o → p.slot ≡ h.slot → IsPinOf o held (record { object = o; writer = v.writer }) p
pin_chosen base floor o history needed hi c held v h p laid st is e f =
    let slots = subst (AreSlots c.slots) (ap (λ (vs : List Place). map (λ (u : Place). u.slot) vs) st.stored ∙ slots_stored held) laid.are in
    record {
      object = e;
      holds = λ g. (h, ap (λ (k : ℕ). held_in k held) f ∙ found_in c.slots _ held h slots is.found, ap (λ (u : Version). u.writer) is.version);
    }

-- what another slot holds stays
without_other : (k q : ℕ) (held : List Held) → (q ≡ k → ⊥) → held_in q (held_without k held) ≡ held_in q held
without_other k q [] n = refl
without_other k q (h ∷ held) n = at (eqb h.slot k) (eqb h.slot q) refl refl (without_other k q held n)
  where
    at : (b c : Bool) → eqb h.slot k ≡ b → eqb h.slot q ≡ c → held_in q (held_without k held) ≡ held_in q held → held_in q (cond (not b) (h ∷ held_without k held) (held_without k held)) ≡ cond c (Some h) (held_in q held)
    at true true f g e = absurd (n (sym (eqb-true h.slot q g) ∙ eqb-true h.slot k f))
    at true false f g e = e
    at false true f g e = rw g refl
    at false false f g e = rw g e

-- the newest may end, and keeps its writer
ended_same : (x q : ℕ) (held : List Held) (h : Held) → held_in q held ≡ Some h → (g : Held) × (held_in q (held_ended x held) ≡ Some g) × (g.version.writer ≡ h.version.writer)
ended_same x q [] h e = absurd (cc e)
ended_same x q (y ∷ held) h e = at (eqb y.slot q) refl e
  where
    now : Held
    now = record { slot = y.slot; version = record y.version { end = Some x } }

    at : (b : Bool) → eqb y.slot q ≡ b → cond b (Some y) (held_in q held) ≡ Some h → (g : Held) × (cond (eqb y.slot q) (Some now) (held_in q held) ≡ Some g) × (g.version.writer ≡ h.version.writer)
    at true f e = let same : y ≡ h = cc e in (now, rw f refl, ap (λ (z : Held). z.version.writer) same)
    at false f e = (h, rw f e, refl)

-- what is found in a slot is in that slot
in_its_slot : (q : ℕ) (needed : Version → Bool) (held : List Held) (h : Held) → held_in q held ≡ Some h → IsUnneeded needed q held → needed h.version ≡ false
in_its_slot q needed [] h e u = absurd (cc e)
in_its_slot q needed (x ∷ held) h e u = at (in_its_slot q needed held h) (eqb x.slot q) refl e
  where
    at : (held_in q held ≡ Some h → IsUnneeded needed q held → needed h.version ≡ false) → (b : Bool) → eqb x.slot q ≡ b → cond b (Some x) (held_in q held) ≡ Some h → needed h.version ≡ false
    at rest true f e = let same : x ≡ h = cc e in subst (λ (y : Held). needed y.version ≡ false) same (u.0 f)
    at rest false f e = rest e u.1

-- a core needs what it copies
copied_needed : {M : Type 0} → (base : DeviceState) (o k copied : ℕ) (history : List FinishRecord) (cores : List (Core M)) (a : Attempt M) (r : Read) (reads : List Read) (v : Version) → get_or cores k Idle ≡ Copying a copied → a.reads ≡ r ∷ reads → r.object ≡ o → v.writer ≡ r.writer
    → is_needed base history o cores v ≡ true
copied_needed {M} base o k copied history cores a r reads v at read e w =
    at_needed base history o v cores k (rw at (left (is_newest_read o v a.reads) (meets v (interval_of base history (Copying a copied))) (ap (is_newest_read o v) read ∙ both)))
  where
    left : (b c : Bool) → b ≡ true → (b || c) ≡ true
    left true c f = refl
    left false c f = absurd (cc f)

    both : (eqb r.object o && eqb r.writer v.writer) ≡ true
    both = rw (eq-eqb r.object o e) (eq-eqb r.writer v.writer (sym w))

pub pin_kept : {M : Type 0} → (base : DeviceState) (o k copied : ℕ) (history : List FinishRecord) (cores : List (Core M)) (plan : ℕ → ℕ) (j : Option FinishRecord) (c : Chain) (held : List Held) (a : Attempt M) (r : Read) (reads : List Read) (p : Pin)
    → IsPlanned (is_needed base history o cores) plan j o c held → get_or cores k Idle ≡ Copying a copied → a.reads ≡ r ∷ reads → IsPinOf o held r p → IsPinOf o (held_joining plan j o held) r p
pin_kept base o k copied history cores plan None c held a r reads p planned at read pin = pin
pin_kept {M} base o k copied history cores plan (Some i) c held a r reads p planned at read pin = go (written i.run.writes o) planned
  where
    go : (w : Option (List ℕ)) → IsPlannedFor (is_needed base history o cores) plan o w c held → IsPinOf o (held_after plan i o w held) r p
    go None free = pin
    go (Some words) free = record { object = pin.object; holds = λ e. there e (pin.holds e) }
      where
        there : r.object ≡ o → (h : Held) × (held_in p.slot held ≡ Some h) × (h.version.writer ≡ r.writer) → (g : Held) × (held_in p.slot (held_with (plan o) i words held) ≡ Some g) × (g.version.writer ≡ r.writer)
        there e f =
            let needed = copied_needed base o k copied history cores a r reads f.0.version at read e f.2 in
            let other : p.slot ≡ plan o → ⊥ = λ g. let none = in_its_slot (plan o) (is_needed base history o cores) held f.0 (ap (λ (q : ℕ). held_in q held) (sym g) ∙ f.1) free.spare in (let same : true ≡ false = sym needed ∙ none in absurd (cc same)) in
            let kept = ended_same i.point p.slot (held_without (plan o) held) f.0 (without_other (plan o) p.slot held other ∙ f.1) in
            (kept.0, rw (ne_eqb (plan o) p.slot (λ g. other (sym g))) kept.1, kept.2 ∙ f.2)
