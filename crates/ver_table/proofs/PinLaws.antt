-- A pin names just the version that is copied: no slot and no writer stands twice.
use Rattle.std.proofs.Common.{◌≡◌, ℕ, ◌+◌, ◌≤◌, inl, inr, Bool, true, false, cond, eqb, ◌||◌, ◌&&◌, List, [], ◌∷◌, length, map, Option, Some, None, refl, sym, ap, ap₂, ◌∙◌, subst, arith}
use Rattle.std.specs.List.{AllByRecursion, list_any}
use Rattle.std.proofs.lemmas.Bool.{eqb-true, eqb-false, eq-eqb, ne_eqb}
use Rattle.object_sets.specs.ObjectSets.{is_among}
use Rattle.interval.specs.declared.version.Pin.{Pin}
use Rattle.kernel_model.specs.Effects.{written}
use Rattle.kernel_model.specs.Items.{FinishRecord}
use Rattle.kernel_model.specs.Replay.{DeviceState}
use Rattle.kernel_model.specs.Versions.{Read, Version, versions, versions_to}
use Rattle.kernel_model.specs.Cores.{Committing, Copying, Core, Idle, Ready, Running}
use Rattle.kernel_model.specs.Room.{is_copied_by, is_newest_read}
use Rattle.kernel_model.specs.History.{IsNumbered}
use Rattle.kernel_model.specs.Chain.{IsChain, IsPart}
use Rattle.kernel_model.proofs.ForCallers.{tops, writers_below}
use Rattle.ver_table.specs.Chains.{Chain, Place}
use Rattle.ver_table.specs.Places.{is_pinned}
use Rattle.ver_table.specs.Slots.{AreSlots, IsLaid}
use Rattle.ver_table.specs.StandsFor.{ArePins, Held, IsPinOfNewest, StandsFor, held_in, stored_of, versions_of}

-- a writer that none of these has
abbrev pub IsOther : ℕ → List Version → Type 0
IsOther n vs = AllByRecursion (λ u. eqb n u.writer ≡ false) vs

-- no two have one writer
abbrev pub AreApart : List Version → Type 0
AreApart [] = Unit {0}
AreApart (v ∷ vs) = IsOther v.writer vs × AreApart vs

above_others : (n m : ℕ) (vs : List Version) → n ≡ m + 1 → AllByRecursion (λ v. v.writer ≤ m) vs → IsOther n vs
above_others n m [] e h = tt
above_others n m (v ∷ vs) e h = (ne_eqb n v.writer (λ f. let l = h.0 in omega (arith, e, f, l)), above_others n m vs e h.1)

apart_versions : (end : Option ℕ) (base : DeviceState) (o : ℕ) (history : List FinishRecord) → IsNumbered base history → AreApart (versions_to end base o history)
apart_versions end base o [] h = (tt, tt)
apart_versions end base o (i ∷ history) h = go (λ e. apart_versions e base o history (h.0.2, h.1.1)) (written i.run.writes o)
  where
    go : ((e : Option ℕ) → AreApart (versions_to e base o history)) → (w : Option (List ℕ)) → AreApart (tops end base o i history w)
    go rest None = rest end
    go rest (Some words) = (above_others i.number (base.number + length history) (versions_to (Some i.point) base o history) (omega (arith, h.0.0)) (writers_below (Some i.point) base o history (h.0.2, h.1.1)), rest (Some i.point))

other_part : (n floor : ℕ) (needed : Version → Bool) (part vs : List Version) → IsOther n vs → IsPart floor needed part vs → IsOther n part
other_part n floor needed part [] a p = rw p tt
other_part n floor needed part (v ∷ vs) a (inl p) = rw p.1 (a.0, other_part n floor needed p.0 vs a.1 p.2)
other_part n floor needed part (v ∷ vs) a (inr p) = other_part n floor needed part vs a.1 p.1

apart_part : (floor : ℕ) (needed : Version → Bool) (part vs : List Version) → AreApart vs → IsPart floor needed part vs → AreApart part
apart_part floor needed part [] a p = rw p tt
apart_part floor needed part (v ∷ vs) a (inl p) = rw p.1 (other_part v.writer floor needed p.0 vs a.0 p.2, apart_part floor needed p.0 vs a.1 p.2)
apart_part floor needed part (v ∷ vs) a (inr p) = apart_part floor needed part vs a.1 p.1

apart_chain : (floor : ℕ) (needed : Version → Bool) (chain vs : List Version) → AreApart vs → IsChain floor needed chain vs → AreApart chain
apart_chain floor needed chain [] a c = rw c tt
apart_chain floor needed chain (v ∷ vs) a c = rw c.1 (other_part v.writer floor needed c.0 vs a.0 c.2, apart_part floor needed c.0 vs a.1 c.2)

-- the slots that hold something
abbrev pub slots_held : List Held → List ℕ
slots_held held = map (λ h. h.slot) held

pub slots_stored : (held : List Held) → map (λ (v : Place). v.slot) (map stored_of held) ≡ slots_held held
slots_stored [] = refl
slots_stored (h ∷ held) = ap (λ (ks : List ℕ). h.slot ∷ ks) (slots_stored held)

-- where neither slot nor writer stands, both tests fail
none_same : (k w : ℕ) (held : List Held) → is_among k (slots_held held) ≡ false → IsOther w (versions_of held) → AllByRecursion (λ h. eqb k h.slot ≡ eqb w h.version.writer) held
none_same k w [] n a = tt
none_same k w (h ∷ held) n a = at (eqb h.slot k) refl n (λ e. none_same k w held e a.1)
  where
    at : (b : Bool) → eqb h.slot k ≡ b → (b || is_among k (slots_held held)) ≡ false → (is_among k (slots_held held) ≡ false → AllByRecursion (λ h. eqb k h.slot ≡ eqb w h.version.writer) held) → (eqb k h.slot ≡ eqb w h.version.writer) × AllByRecursion (λ h. eqb k h.slot ≡ eqb w h.version.writer) held
    at true f n rest = absurd (cc n)
    at false f n rest = (ne_eqb k h.slot (λ g. eqb-false h.slot k f (sym g)) ∙ sym a.0, rest n)

-- what is found is another than one that is none of them
found_other : (n k : ℕ) (held : List Held) (h : Held) → IsOther n (versions_of held) → held_in k held ≡ Some h → eqb n h.version.writer ≡ false
found_other n k [] h a e = absurd (cc e)
found_other n k (x ∷ held) h a e = at (found_other n k held h a.1) (eqb x.slot k) e
  where
    at : (held_in k held ≡ Some h → eqb n h.version.writer ≡ false) → (b : Bool) → cond b (Some x) (held_in k held) ≡ Some h → eqb n h.version.writer ≡ false
    at rest true e = let same : x ≡ h = cc e in subst (λ (y : Held). eqb n y.version.writer ≡ false) same a.0
    at rest false e = rest e

-- a slot and the writer of what it holds name the same
pub each_same : (n k w : ℕ) (held : List Held) (x : Held) → AreSlots n (slots_held held) → AreApart (versions_of held) → held_in k held ≡ Some x → x.version.writer ≡ w → AllByRecursion (λ h. eqb k h.slot ≡ eqb w h.version.writer) held
each_same n k w [] x s a e f = tt
each_same n k w (h ∷ held) x s a e f = at (λ g. each_same n k w held x s.2 a.1 g f) (eqb h.slot k) refl e
  where
    at : (held_in k held ≡ Some x → AllByRecursion (λ h. eqb k h.slot ≡ eqb w h.version.writer) held) → (b : Bool) → eqb h.slot k ≡ b → cond b (Some h) (held_in k held) ≡ Some x → (eqb k h.slot ≡ eqb w h.version.writer) × AllByRecursion (λ h. eqb k h.slot ≡ eqb w h.version.writer) held
    at rest true g e =
        let same : h ≡ x = cc e in
        let slot : h.slot ≡ k = eqb-true h.slot k g in
        let writer : h.version.writer ≡ w = ap (λ (y : Held). y.version.writer) same ∙ f in (
          eq-eqb k h.slot (sym slot) ∙ sym (eq-eqb w h.version.writer (sym writer)),
          none_same k w held (ap (λ (j : ℕ). is_among j (slots_held held)) (sym slot) ∙ s.1) (subst (λ (m : ℕ). IsOther m (versions_of held)) writer a.0),
        )
    at rest false g e =
        let other : eqb h.version.writer x.version.writer ≡ false = found_other h.version.writer k held x a.0 e in (
          ne_eqb k h.slot (λ q. eqb-false h.slot k g (sym q)) ∙ sym (ne_eqb w h.version.writer (λ q. eqb-false h.version.writer x.version.writer other (sym q ∙ sym f))),
          rest e,
        )

-- one pin more
one_pin : (o : ℕ) (p : Pin) (r : Read) (rest : List Pin) (hs : List Held) (copied : Version → Bool) → p.object.0 ≡ r.object → (r.object ≡ o → AllByRecursion (λ h. eqb p.slot h.slot ≡ eqb r.writer h.version.writer) hs) → AllByRecursion (λ h. is_pinned o rest h.slot ≡ copied h.version) hs
    → AllByRecursion (λ h. is_pinned o (p ∷ rest) h.slot ≡ ((eqb r.object o && eqb r.writer h.version.writer) || copied h.version)) hs
one_pin o p r rest hs copied e same more = at (eqb r.object o) refl
  where
    yes : (hs : List Held) → eqb p.object.0 o ≡ true → AllByRecursion (λ h. eqb p.slot h.slot ≡ eqb r.writer h.version.writer) hs → AllByRecursion (λ h. is_pinned o rest h.slot ≡ copied h.version) hs → AllByRecursion (λ h. is_pinned o (p ∷ rest) h.slot ≡ (eqb r.writer h.version.writer || copied h.version)) hs
    yes [] q a b = tt
    yes (h ∷ hs) q a b = (ap (λ (x : Bool). (x && eqb p.slot h.slot) || is_pinned o rest h.slot) q ∙ ap₂ (λ (x y : Bool). x || y) a.0 b.0, yes hs q a.1 b.1)

    not_it : (hs : List Held) → eqb p.object.0 o ≡ false → AllByRecursion (λ h. is_pinned o rest h.slot ≡ copied h.version) hs → AllByRecursion (λ h. is_pinned o (p ∷ rest) h.slot ≡ copied h.version) hs
    not_it [] q b = tt
    not_it (h ∷ hs) q b = (ap (λ (x : Bool). (x && eqb p.slot h.slot) || is_pinned o rest h.slot) q ∙ b.0, not_it hs q b.1)

    at : (b : Bool) → eqb r.object o ≡ b → AllByRecursion (λ h. is_pinned o (p ∷ rest) h.slot ≡ ((b && eqb r.writer h.version.writer) || copied h.version)) hs
    at true f = yes hs (ap (λ (x : ℕ). eqb x o) e ∙ f) (same (eqb-true r.object o f)) more
    at false f = not_it hs (ap (λ (x : ℕ). eqb x o) e ∙ f) more

nothing : (hs : List Held) → AllByRecursion (λ h. false ≡ false) hs
nothing [] = tt
nothing (h ∷ hs) = (refl, nothing hs)

copies : {M : Type 0} → (n o : ℕ) (held : List Held) → AreSlots n (slots_held held) → AreApart (versions_of held) → (cores : List (Core M)) (pins : List Pin) → ArePins o held cores pins
    → AllByRecursion (λ h. is_pinned o pins h.slot ≡ list_any (is_copied_by o h.version) cores) held
copies n o held s a [] pins e = rw e (nothing held)
copies n o held s a (Idle ∷ cores) pins e = copies n o held s a cores pins e
copies n o held s a (Running t ∷ cores) pins e = copies n o held s a cores pins e
copies n o held s a (Ready t outcome ∷ cores) pins e = copies n o held s a cores pins e
copies n o held s a (Committing i left ∷ cores) pins e = copies n o held s a cores pins e
copies {M} n o held s a (Copying t copied ∷ cores) pins e = subst (λ (ps : List Pin). AllByRecursion (λ h. is_pinned o ps h.slot ≡ (is_newest_read o h.version t.reads || list_any (is_copied_by o h.version) cores)) held) (sym e.2) (at t.reads e.3 (copies n o held s a cores e.1 e.4))
  where
    at : (reads : List Read) → IsPinOfNewest o held reads e.0 → AllByRecursion (λ h. is_pinned o e.1 h.slot ≡ list_any (is_copied_by o h.version) cores) held
        → AllByRecursion (λ h. is_pinned o (e.0 ∷ e.1) h.slot ≡ (is_newest_read o h.version reads || list_any (is_copied_by o h.version) cores)) held
    at [] x rest = absurd x
    at (r ∷ reads) x rest = one_pin o e.0 r e.1 held (λ v. list_any (is_copied_by o v) cores) x.object (λ q. let k = x.holds q in each_same n e.0.slot r.writer held k.0 s a k.1 k.2) rest

pub pins_are : {M : Type 0} → (base : DeviceState) (floor o : ℕ) (history : List FinishRecord) (needed : Version → Bool) (c : Chain) (held : List Held) (cores : List (Core M)) (pins : List Pin) → IsNumbered base history → IsLaid c → StandsFor floor needed base o history c held → ArePins o held cores pins
    → AllByRecursion (λ h. is_pinned o pins h.slot ≡ list_any (is_copied_by o h.version) cores) held
pins_are base floor o history needed c held cores pins n laid st p =
    let slots = subst (AreSlots c.slots) (ap (λ (vs : List Place). map (λ (v : Place). v.slot) vs) st.stored ∙ slots_stored held) laid.are in
    copies c.slots o held slots (apart_chain floor needed (versions_of held) (versions base o history) (apart_versions None base o history n) st.chain) cores pins p
