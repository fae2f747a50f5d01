-- A write of a commit on the device is that of the slots' model, and the write of a boot touches no slot.
use Rattle.std.proofs.Common.{◌≡◌, ℕ, ◌+◌, ◌-◌, ◌<◌, ◌≤◌, Bool, true, false, cond, eqb, ltb, List, [], ◌∷◌, ◌++◌, get_or, set, length, Option, Some, None, refl, sym, ap, ◌∙◌, arith, slice_index}
use Rattle.std.specs.Prelude.{◌&&◌}
use Rattle.std.specs.List.{AllByRecursion}
use Rattle.std.proofs.Math.ListN.{get_or-append}
use Rattle.std.proofs.lemmas.List.{get_or-append_right, length-append}
use Rattle.std.proofs.lemmas.Bool.{eqb-true, eqb-false, ltb-true, ltb-false}
use Rattle.kernel_model.specs.Effects.{Write, written}
use Rattle.kernel_model.specs.Fit.{IsWrite}
use Rattle.slot_model.specs.Slots.{AreSame, Image}
use Rattle.slot_model.specs.Slots as slots
use Rattle.slot_model.specs.Kept.{Kept}
use Rattle.slot_model.specs.Standing.{IsTarget}
use Rattle.slot_model.specs.Store.{Target, after_write, target}
use Rattle.set_model.specs.Sets.{object_at}
use Rattle.device_model.specs.Words.{Change, Words, with_word, written_at}
use Rattle.device_model.specs.Layouts.{slot_place, slots_at}
use Rattle.device_model.specs.Decoding as decoding
use Rattle.device_model.specs.Commits.{Commit, commit_writes, object_changes}
use Rattle.device_model.specs.Places.{IsLaidOut}
use Rattle.device_model.proofs.ForCallers.{early-write, get-written, late-place, length-written, words-other, words-out, words-set}
use Rattle.table_machine.specs.Tables.{Setting, sizes_in}
use Rattle.table_machine.specs.Represents.{slots_in}

-- the write that has a word for a slot
target-some : {M : Type 0} → (x : Setting M) (names : List ℕ) (ws : List Write) → AllByRecursion (IsWrite (sizes_in x)) ws → (m : ℕ) (t : Target) (d : Change) → target (sizes_in x) m ws ≡ Some t →
    (m < length (object_changes x.layout x.set names ws)) × (get_or (object_changes x.layout x.set names ws) m d ≡ (slot_place x.layout x.set t.object (slice_index names t.object) + t.place, t.word))
target-some x names [] h m t d e = absurd (cc e)
target-some x names (w ∷ ws) h m t d e = go (target-some x names ws h.1 (m - size) t d) (ltb m size) refl e
  where
    size : ℕ
    size = (object_at x.set w.object).size

    p : ℕ
    p = slot_place x.layout x.set w.object (slice_index names w.object)

    a : List Change
    a = written_at p w.words

    b : List Change
    b = object_changes x.layout x.set names ws

    whole : length a ≡ size
    whole = length-written p w.words ∙ h.0.words

    all : length (a ++ b) ≡ size + length b
    all = omega (arith, length-append a b, whole)

    go : (target (sizes_in x) (m - size) ws ≡ Some t → (m - size < length b) × (get_or b (m - size) d ≡ (slot_place x.layout x.set t.object (slice_index names t.object) + t.place, t.word))) →
        (c : Bool) → ltb m size ≡ c → cond c (Some (let k : Target = record { object = w.object; place = m; word = get_or w.words m 0 } in k)) (target (sizes_in x) (m - size) ws) ≡ Some t →
        (m < length (a ++ b)) × (get_or (a ++ b) m d ≡ (slot_place x.layout x.set t.object (slice_index names t.object) + t.place, t.word))
    go later true f g =
        let same : (let k : Target = record { object = w.object; place = m; word = get_or w.words m 0 } in k) ≡ t = cc g in
        let l : m < size = ltb-true m size f in (
          omega (arith, l, all),
          get_or-append a b d m (omega (arith, l, whole)) ∙ get-written p w.words m d (let z = h.0.words in omega (arith, l, z))
              ∙ ap (λ (k : Target). let c : Change = (slot_place x.layout x.set k.object (slice_index names k.object) + k.place, k.word) in c) same,
        )
    go later false f g =
        let l : size ≤ m = ltb-false m size f in
        let rest = later g in
        (omega (arith, l, all, rest.0), get_or-append_right a b size m d whole l ∙ rest.1)

-- a write that has none comes after all that have
target-none : {M : Type 0} → (x : Setting M) (names : List ℕ) (ws : List Write) → AllByRecursion (IsWrite (sizes_in x)) ws → (m : ℕ) → target (sizes_in x) m ws ≡ None → length (object_changes x.layout x.set names ws) ≤ m
target-none x names [] h m e = omega arith
target-none x names (w ∷ ws) h m e = go (target-none x names ws h.1 (m - size)) (ltb m size) refl e
  where
    size : ℕ
    size = (object_at x.set w.object).size

    p : ℕ
    p = slot_place x.layout x.set w.object (slice_index names w.object)

    go : (target (sizes_in x) (m - size) ws ≡ None → length (object_changes x.layout x.set names ws) ≤ m - size) → (c : Bool) → ltb m size ≡ c → cond c (Some (let k : Target = record { object = w.object; place = m; word = get_or w.words m 0 } in k)) (target (sizes_in x) (m - size) ws) ≡ None → length (written_at p w.words ++ object_changes x.layout x.set names ws) ≤ m
    go later true f g = absurd (cc g)
    go later false f g =
        let rest = later g in
        let l : size ≤ m = ltb-false m size f in
        let z : length w.words ≡ size = h.0.words in
        omega (arith, rest, l, z, length-append (written_at p w.words) (object_changes x.layout x.set names ws), length-written p w.words)

-- ---- the words of a slot

-- a word before all slots
before-slots : {M : Type 0} → (x : Setting M) (words : Words) (w : Change) (o k : ℕ) → w.0 < slots_at x.layout → slots_in x words o k ≡ slots_in x (with_word w words) o k
before-slots x words w o k l = sym (words-out x.set x.layout words w o k l)

-- the write of a boot
pub boot-same : {M : Type 0} → (x : Setting M) (words : Words) (boots : ℕ) → IsLaidOut x.set x.layout → AreSame (sizes_in x) (slots_in x words) (slots_in x (with_word (2, boots) words))
boot-same x words boots d o k l m = before-slots x words (2, boots) o k (let first = d.header_first in omega (arith, first))

-- a word for a slot
word-in : {M : Type 0} → (x : Setting M) (kept : Kept) (ws : List Write) (words : Words) (t : Target) → IsTarget (sizes_in x) kept ws t → (o k : ℕ) → o < length x.set.objects → k < (object_at x.set o).slots →
    slots.with_word t.object (kept.plan t.object) t.place t.word (slots_in x words) o k ≡ slots_in x (with_word (slot_place x.layout x.set t.object (kept.plan t.object) + t.place, t.word) words) o k
word-in x kept ws words t a o k l m = go (eqb o t.object) refl (eqb k (kept.plan t.object)) refl
  where
    w : Change
    w = (slot_place x.layout x.set t.object (kept.plan t.object) + t.place, t.word)

    other : ((o ≡ t.object) → (k ≡ kept.plan t.object) → ⊥) → slots_in x words o k ≡ slots_in x (with_word w words) o k
    other ne = sym (words-other x.set x.layout words t.object (kept.plan t.object) t.place t.word o k a.object a.slot a.place l m ne)

    go : (b : Bool) → eqb o t.object ≡ b → (c : Bool) → eqb k (kept.plan t.object) ≡ c → cond (b && c) (set (slots_in x words o k) t.place t.word) (slots_in x words o k) ≡ slots_in x (with_word w words) o k
    go true e true f =
        let here : o ≡ t.object = eqb-true o t.object e in
        let slot : k ≡ kept.plan t.object = eqb-true k (kept.plan t.object) f in
        rw (here, slot) (sym (words-set words (slot_place x.layout x.set t.object (kept.plan t.object)) (object_at x.set t.object).size t.place t.word a.place))
    go true e false f = other (λ g h. eqb-false k (kept.plan t.object) f h)
    go false e c f = other (λ g h. eqb-false o t.object e g)

-- a write of a commit
pub write-same : {M : Type 0} → (x : Setting M) (kept : Kept) (h : decoding.Held) (c : Commit) (words : Words) (m : ℕ) → IsLaidOut x.set x.layout → AllByRecursion (IsWrite (sizes_in x)) c.writes → ((t : Target) → target (sizes_in x) m c.writes ≡ Some t → IsTarget (sizes_in x) kept c.writes t) →
    ((o : ℕ) (wds : List ℕ) → o < length x.set.objects → written c.writes o ≡ Some wds → slice_index c.after.slots o ≡ kept.plan o) →
    AreSame (sizes_in x) (after_write kept.plan (target (sizes_in x) m c.writes) (slots_in x words)) (slots_in x (with_word (get_or (commit_writes x.layout x.set h c) m (0, 0)) words))
write-same x kept h c words m d ws to names o k l n = go (target (sizes_in x) m c.writes) refl
  where
    go : (t : Option Target) → target (sizes_in x) m c.writes ≡ t → after_write kept.plan t (slots_in x words) o k ≡ slots_in x (with_word (get_or (commit_writes x.layout x.set h c) m (0, 0)) words) o k
    go None e = before-slots x words (get_or (commit_writes x.layout x.set h c) m (0, 0)) o k (late-place x.set x.layout h c d m (target-none x c.after.slots c.writes ws m e))
    go (Some t) e =
        let a = to t e in
        let early = target-some x c.after.slots c.writes ws m t (0, 0) e in
        let slot : slice_index c.after.slots t.object ≡ kept.plan t.object = names t.object a.words a.object a.written_is in
        word-in x kept c.writes words t a o k l n
        ∙ ap (λ (w : Change). slots_in x (with_word w words) o k)
        (sym (early-write x.set x.layout h c m early.0 ∙ early.1 ∙ ap (λ (q : ℕ). let w : Change = (slot_place x.layout x.set t.object q + t.place, t.word) in w) slot))
