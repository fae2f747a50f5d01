-- The device's words while a commit is written.
use Rattle.std.proofs.Common.{◌≡◌, ◌≢◌, ◌⊎◌, inl, inr, ⊎_elim, ℕ, ◌+◌, ◌<◌, ◌≤◌, List, [], ◌∷◌, ◌++◌, Result, Ok, Err, OnErr, OnOk, Some, length, slice_index, take, ap, sym, ◌∙◌, subst, arith}
use Rattle.std.proofs.lemmas.Bool.{cases_lt}
use Rattle.std.proofs.lemmas.List.{take_more}
use Rattle.kernel_model.specs.Effects.{written}
use Rattle.set_model.specs.Limits.{IsTaskSet}
use Rattle.fram_dev.specs.Device.{made_in}
use Rattle.fram_dev.proofs.MadeIn.{length-made_in, made_in-append}
use Rattle.device_model.specs.Words.{Change, Words, made, with_word}
use Rattle.device_model.specs.Devices.{HoldsOn, IsKindOn, IsSlotWord, layout_on, need_on, slot_on}
use Rattle.device_model.proofs.ForCallers.{cut, ends, keeps_decodes, laid_out_set, made-append}
use Rattle.device_model.proofs.InRange.{kept-slot}
use Rattle.device_model.proofs.Writes.{image_by_place}
use Rattle.commit_writer.specs.Courses.{Course, held_after, writes_of}
use Rattle.commit_writer.specs.Turns.{IsBeforeOrAfter, IsUnderWayIn, words_in, write_number}

pub on_err : {A E : Type 0} (r : Result A E) (P : Type 0) → P → OnErr r P
on_err (Ok x) P p = tt
on_err (Err e) P p = p

pub of_ok : {A E : Type 0} (r : Result A E) (x : A) (P : Type 0) → r ≡ Ok x → OnOk r P → P
of_ok {A} {E} r x P e p = let Q : Result A E → Type 0 = λ s. OnOk s P in subst Q e p

pub ok_then : {A E : Type 0} (r : Result A E) (P Q : Type 0) → (P → Q) → OnOk r P → OnOk r Q
ok_then (Ok x) P Q f p = f p
ok_then (Err e) P Q f p = tt

pub err_then : {A E : Type 0} (r : Result A E) (P Q : Type 0) → (P → Q) → OnErr r P → OnErr r Q
err_then (Ok x) P Q f p = tt
err_then (Err e) P Q f p = f p

pub either_way : {A E : Type 0} (r : Result A E) (P Q S : Type 0) → (P → S) → (Q → S) → OnOk r P → OnErr r Q → S
either_way (Ok x) P Q S f h p q = f p
either_way (Err e) P Q S f h p q = h q

-- the words after one write more
word_more : (start : List ℕ) (log new : List Change) (w : Change) → w.0 < length start → new ≡ log ++ w ∷ [] → words_in start new ≡ with_word w (words_in start log)
word_more start log new w l e =
    ap (words_in start) e ∙ ap (λ (ws : List ℕ). slice_index ws) (made_in-append log (w ∷ []) start)
    ∙ image_by_place (w ∷ []) (made_in log start) (omega (arith, l, length-made_in log start), tt)

-- one write more is made
pub under_way_more : (g : Course) (count : ℕ) (start : List ℕ) (log new : List Change) → IsUnderWayIn g count start log → count < length (writes_of g) → (write_number g count).0 < need_on g.device → new ≡ log ++ write_number g count ∷ [] → IsUnderWayIn g (count + 1) start new
under_way_more g count start log new u a l e =
    let w : Change = write_number g count in
    let v = u.under_way in
    record {
      long = u.long;
      under_way = record {
        next = v.next;
        first = v.first;
        kept = v.kept;
        made_are = word_more start log new w (let n = u.long in omega (arith, l, n)) e
            ∙ ap (with_word w) v.made_are ∙ sym (ap (λ (x : List Change). made x v.first) (take_more (writes_of g) count (0, 0) a) ∙ made-append (take count (writes_of g)) (w ∷ []) v.first);
      };
    }

-- before the last write they hold the state before
pub holds_before : (g : Course) (count : ℕ) (start : List ℕ) (log : List Change) → IsTaskSet g.device.set → IsKindOn g.device → IsUnderWayIn g count start log → count < length (writes_of g) → HoldsOn g.device g.held (words_in start log)
holds_before g count start log t k u a =
    let d = g.device in
    keeps_decodes d.set.format d.kind d.set g.held (words_in start log) k (laid_out_set d.kind d.set t)
    (cut d.set (layout_on d) g.held g.commit count (words_in start log) (laid_out_set d.kind d.set t) a u.under_way)

-- after it the state after
pub holds_after : (g : Course) (count : ℕ) (start : List ℕ) (log : List Change) → IsTaskSet g.device.set → IsKindOn g.device → IsUnderWayIn g count start log → length (writes_of g) ≤ count → HoldsOn g.device (held_after g) (words_in start log)
holds_after g count start log t k u a =
    let d = g.device in
    keeps_decodes d.set.format d.kind d.set (held_after g) (words_in start log) k (laid_out_set d.kind d.set t)
    (ends d.set (layout_on d) g.held g.commit count (words_in start log) (laid_out_set d.kind d.set t) a u.under_way)

-- where the write was lost
pub holds_one : (g : Course) (count : ℕ) (start : List ℕ) (log new : List Change) → IsTaskSet g.device.set → IsKindOn g.device → IsUnderWayIn g count start log → count < length (writes_of g) → (write_number g count).0 < need_on g.device
    → (new ≡ log) ⊎ (new ≡ log ++ write_number g count ∷ []) → IsBeforeOrAfter g count (words_in start new)
holds_one g count start log new t k u a l e = ⊎_elim
    (λ same. inl (subst (λ (x : List Change). HoldsOn g.device g.held (words_in start x)) (sym same) (holds_before g count start log t k u a)))
    (λ made. let v = under_way_more g count start log new u a l made in
    ⊎_elim (λ b. inl (holds_before g (count + 1) start new t k v b)) (λ b. let e : count + 1 ≡ length (writes_of g) = omega arith in inr (e, holds_after g (count + 1) start new t k v b)) (cases_lt (count + 1) (length (writes_of g)))) e

-- slots that are not written keep their words
slot_is_first : (g : Course) (count : ℕ) (start : List ℕ) (log : List Change) (o slot i : ℕ) → IsTaskSet g.device.set → (u : IsUnderWayIn g count start log) → IsSlotWord g.device.set o slot i
    → ((given : List ℕ) → written g.commit.writes o ≡ Some given → slice_index g.commit.after.slots o ≢ slot) → words_in start log (slot_on g.device o slot i) ≡ u.under_way.first (slot_on g.device o slot i)
slot_is_first g count start log o slot i t u s n =
    let d = g.device in
    let v = u.under_way in
    ap (λ (f : Words). f (slot_on d o slot i)) v.made_are ∙ kept-slot d.set (layout_on d) g.held g.commit v.first count o slot i (laid_out_set d.kind d.set t) v.kept.held v.next s.0 s.1 s.2 n

pub slot_stays : (g : Course) (count : ℕ) (start : List ℕ) (log new : List Change) (o slot i : ℕ) → IsTaskSet g.device.set → IsUnderWayIn g count start log → count < length (writes_of g) → (write_number g count).0 < need_on g.device
    → IsSlotWord g.device.set o slot i → ((given : List ℕ) → written g.commit.writes o ≡ Some given → slice_index g.commit.after.slots o ≢ slot)
    → (new ≡ log) ⊎ (new ≡ log ++ write_number g count ∷ []) → words_in start new (slot_on g.device o slot i) ≡ words_in start log (slot_on g.device o slot i)
unfolding under_way_more
slot_stays g count start log new o slot i t u a l s n e = ⊎_elim
    (λ same. ap (λ (x : List Change). words_in start x (slot_on g.device o slot i)) same)
    (λ made. slot_is_first g (count + 1) start new o slot i t (under_way_more g count start log new u a l made) s n ∙ sym (slot_is_first g count start log o slot i t u s n)) e
