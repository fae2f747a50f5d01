-- The images of a commit.
use Rattle.std.proofs.Common.{◌≡◌, ◌≢◌, ℕ, zero, suc, ◌+◌, ◌-◌, ◌*◌, ◌/◌, ◌%◌, ◌<◌, ◌≤◌, ⊎_elim, Bool, true, false, not, cond, eqb, nat_le, ◌&&◌, List, [], ◌∷◌, length, slice_index, take, Option, Some, None, unwrap_or, arith, refl, ap, sym, ◌∙◌, subst}
use Rattle.std.specs.List.{AllByRecursion}
use Rattle.std.proofs.lemmas.Bool.{cases_eq, cases_lt, eq-eqb, ne_eqb, le-leb, eqb-false, or_parts}
use Rattle.std.proofs.lemmas.Nat.{div-add-mod'}
use Rattle.kernel_model.specs.Effects.{Write, written, object_words}
use Rattle.kernel_model.specs.Fit.{IsWrite}
use Rattle.kernel_model.proofs.ForCallers.{length-put_from, put-seen}
use Rattle.set_model.specs.Sets.{TaskSet, object_at}
use Rattle.set_model.specs.Numbers.{sizes_of}
use Rattle.device_model.specs.Words.{Words, Change, made, with_word}
use Rattle.device_model.specs.Layouts.{Layout, copy_place, index_place, index_reads, slot_place}
use Rattle.device_model.specs.IndexWords.{index_word}
use Rattle.device_model.specs.Decoding.{Held}
use Rattle.device_model.specs.Keeping.{IsFree, IsHeld, KeepsIn}
use Rattle.device_model.specs.Places.{IsLaidOut}
use Rattle.device_model.specs.Commits.{Commit, IsNext, is_changed, names_slot, differs, commit_body, commit_writes, committed, next_root}
use Rattle.device_model.proofs.PlaceLaws.{page_of, slot_place-low}
use Rattle.device_model.proofs.Writes.{Every-take, made-last, take-body, with_word-same, with_word-other}
use Rattle.device_model.proofs.IndexLists.{word-slot}
use Rattle.device_model.proofs.Free.{free_keeps, header-root}
use Rattle.device_model.proofs.CommitBody.{body-free, object-made, page-made}
use Rattle.device_model.proofs.Tests.{from-not_eq}

-- ---- objects with writes put in

written-write : (set : TaskSet) (ws : List Write) (o : ℕ) (words : List ℕ) → AllByRecursion (IsWrite (sizes_of set)) ws → written ws o ≡ Some words → length words ≡ (object_at set o).size
written-write set [] o words h e = absurd (cc e)
written-write set (w ∷ ws) o words h e = ⊎_elim
    (λ f. let g : Some w.words ≡ Some words = rw (eq-eqb w.object o f) at e in let g' : w.words ≡ words = cc g in let fit = h.0 in ap length (sym g') ∙ fit.words ∙ ap (λ (p : ℕ). (object_at set p).size) f)
    (λ n. let g : written ws o ≡ Some words = rw (ne_eqb w.object o n) at e in written-write set ws o words h.1 g) (cases_eq w.object o)

-- ---- a page that is not changed

not_named : (l : Layout) (ws : List Write) (page o : ℕ) (words : List ℕ) → names_slot l ws page ≡ false → written ws o ≡ Some words → (9 + o) / l.page_words ≢ page
not_named l [] page o words h e f = let g : None ≡ Some words = e in cc g
not_named l (w ∷ ws) page o words h e f =
    let both = or_parts (eqb ((9 + w.object) / l.page_words) page) (names_slot l ws page) h in
    ⊎_elim
    (λ g. eqb-false ((9 + w.object) / l.page_words) page both.0 (ap (λ (p : ℕ). (9 + p) / l.page_words) g ∙ f))
    (λ n. let g : written ws o ≡ Some words = rw (ne_eqb w.object o n) at e in not_named l ws page o words both.1 g f) (cases_eq w.object o)

same_words : (low : ℕ) (v w : Words) (i n k : ℕ) → differs low v w i n ≡ false → i ≤ k → k < i + n → low ≤ k → v k ≡ w k
same_words low v w i zero k h a b c = absurd (omega arith)
same_words low v w i (suc n) k h a b c =
    let both = or_parts (nat_le low i && not (eqb (v i) (w i))) (differs low v w (i + 1) n) h in
    ⊎_elim (λ l. same_words low v w (i + 1) n k both.1 (omega arith) (omega arith) c)
    (λ l. let e : k ≡ i = omega arith in let f : not (eqb (v i) (w i)) ≡ false = rw (le-leb low i (omega arith)) at (both.0) in ap v e ∙ from-not_eq (v i) (w i) f ∙ ap w (sym e)) (cases_lt i k)

-- its words are those of the index before
unchanged : (set : TaskSet) (l : Layout) (h : Held) (c : Commit) (i : ℕ) → IsLaidOut set l → IsHeld set l h → IsNext set h c → i < index_reads l → is_changed l set h.index c (i / l.page_words) ≡ false → index_word h.index i ≡ index_word c.after i
unchanged set l h c i d k n a t = ⊎_elim slot tasks (cases_lt i (9 + length set.objects))
  where
    z : 0 < l.page_words
    z = let p = d.page_words in omega arith

    parts : ((i / l.page_words) ≢ 0) × (names_slot l c.writes (i / l.page_words) ≡ false) × (differs (9 + length set.objects) (index_word h.index) (index_word c.after) (i / l.page_words * l.page_words) l.page_words ≡ false)
    parts =
        let one = or_parts (eqb (i / l.page_words) 0) _ t in
        let two = or_parts (names_slot l c.writes (i / l.page_words)) _ one.1 in
        (eqb-false (i / l.page_words) 0 one.0, two.0, two.1)

    row : i / l.page_words * l.page_words + i % l.page_words ≡ i
    row = div-add-mod' i l.page_words

    at_least : (q w : ℕ) → q ≢ 0 → w ≤ q * w
    at_least zero w f = absurd (f refl)
    at_least (suc q) w f = omega arith

    high : 9 ≤ i
    high = let p = d.page_words in omega (arith, at_least (i / l.page_words) l.page_words parts.0, row)

    rest : i % l.page_words < l.page_words
    rest = (page_of l i a z).1

    tasks : 9 + length set.objects ≤ i → index_word h.index i ≡ index_word c.after i
    tasks b = same_words (9 + length set.objects) (index_word h.index) (index_word c.after) (i / l.page_words * l.page_words) l.page_words i parts.2 (omega (arith, row)) (omega (arith, row, rest)) b

    by_written : (o : ℕ) → i ≡ 9 + o → (w : Option (List ℕ)) → written c.writes o ≡ w → written c.writes o ≡ None
    by_written o e None f = f
    by_written o e (Some words) f = absurd (not_named l c.writes (i / l.page_words) o words parts.1 f (ap (λ (p : ℕ). p / l.page_words) (sym e)))

    slot : i < 9 + length set.objects → index_word h.index i ≡ index_word c.after i
    slot b =
        let o : ℕ = i - 9 in
        let e : i ≡ 9 + o = omega (arith, high) in
        let in_range : o < length set.objects = omega (arith, high) in
        ap (index_word h.index) e ∙ word-slot h.index o (omega (arith, k.index.slots))
        ∙ sym (n.same_slot o in_range (by_written o e (written c.writes o) refl))
        ∙ sym (word-slot c.after o (omega (arith, n.index.slots))) ∙ ap (index_word c.after) (sym e)

-- ---- the images

-- each image but the last keeps the state before
pub commit_prefix : (set : TaskSet) (l : Layout) (h : Held) (c : Commit) (words : Words) (k : ℕ) → IsLaidOut set l → IsNext set h c → KeepsIn set l h words → k < length (commit_writes l set h c) → KeepsIn set l h (made (take k (commit_writes l set h c)) words)
unfolding commit_writes
commit_prefix set l h c words k d n s a =
    subst (λ (log : List Change). KeepsIn set l h (made log words)) (sym (take-body k (commit_body l set h c) (l.root, next_root l set h c) a))
    (free_keeps set l h (take k (commit_body l set h c)) words (Every-take (λ w. IsFree set l h w.0) k (commit_body l set h c) (body-free set l h c d s.held n)) s)

held_next : (set : TaskSet) (l : Layout) (h : Held) (c : Commit) → IsLaidOut set l → IsHeld set l h → IsNext set h c → IsHeld set l (committed l set h c)
held_next set l h c d k n = record {
  index = n.index;
  objects = length-put_from 0 c.writes h.objects ∙ k.objects;
  words = λ o a. ap length (put-seen c.writes h.objects o (omega (arith, k.objects))) ∙ size o a (written c.writes o) refl;
  root = d.is_flipped (is_changed l set h.index c) h.root k.root;
}
  where
    size : (o : ℕ) → o < length set.objects → (w : Option (List ℕ)) → written c.writes o ≡ w → length (unwrap_or w (object_words h.objects o)) ≡ (object_at set o).size
    size o a None e = k.words o a
    size o a (Some words) e = written-write set c.writes o words n.writes e

-- and the last one the state after
pub commit_whole : (set : TaskSet) (l : Layout) (h : Held) (c : Commit) (words : Words) → IsLaidOut set l → IsNext set h c → KeepsIn set l h words → KeepsIn set l (committed l set h c) (made (commit_writes l set h c) words)
unfolding commit_writes
commit_whole set l h c words d n s = subst (KeepsIn set l (committed l set h c)) (sym (made-last (commit_body l set h c) (l.root, next_root l set h c) words)) (record {
  held = held_next set l h c d s.held n;
  header = λ j a p q. with_word-other (l.root, next_root l set h c) mid j (header-root set l j d a p) ∙ kept.header j a p q;
  boots = with_word-other (l.root, next_root l set h c) mid 2 (header-root set l 2 d (omega arith) (λ e. omega arith)) ∙ kept.boots;
  root = with_word-same (l.root, next_root l set h c) mid l.root refl;
  index = λ i a. index i a (is_changed l set h.index c (i / l.page_words)) refl;
  objects = λ o i a b. behind_root (slot_place l set o (slice_index c.after.slots o) + i) (let f = slot_place-low l set o (slice_index c.after.slots o) i in omega arith)
      ∙ object o i a b (written c.writes o) refl ∙ ap (λ (ws : List ℕ). slice_index ws i) (sym (put-seen c.writes h.objects o (omega (arith, s.held.objects))));
})
  where
    mid : Words
    mid = made (commit_body l set h c) words

    kept : KeepsIn set l h mid
    kept = free_keeps set l h (commit_body l set h c) words (body-free set l h c d s.held n) s

    behind_root : (p : ℕ) → l.pages_at ≤ p → with_word (l.root, next_root l set h c) mid p ≡ mid p
    behind_root p a = with_word-other (l.root, next_root l set h c) mid p (λ e. let f = d.root_first in omega arith)

    at : (i : ℕ) → i < index_reads l → (i / l.page_words < l.pages) × (i % l.page_words < l.page_words)
    at i a = page_of l i a (let z = d.page_words in omega arith)

    place : (i : ℕ) (b : Bool) → i < index_reads l → is_changed l set h.index c (i / l.page_words) ≡ b → index_place l (next_root l set h c) i ≡ copy_place l (i / l.page_words) (cond b (1 - l.copy h.root (i / l.page_words)) (l.copy h.root (i / l.page_words))) (i % l.page_words)
    place i b a t = ap (λ (copy : ℕ). copy_place l (i / l.page_words) copy (i % l.page_words)) (d.other_copy (is_changed l set h.index c) h.root (i / l.page_words) s.held.root (at i a).0 ∙ ap (λ (e : Bool). cond e (1 - l.copy h.root (i / l.page_words)) (l.copy h.root (i / l.page_words))) t)

    index : (i : ℕ) → i < index_reads l → (b : Bool) → is_changed l set h.index c (i / l.page_words) ≡ b → with_word (l.root, next_root l set h c) mid (index_place l (next_root l set h c) i) ≡ index_word c.after i
    index i a true t =
        behind_root (index_place l (next_root l set h c) i) (omega arith) ∙ ap mid (place i true a t)
        ∙ page-made set l h c words (i / l.page_words) (i % l.page_words) d s.held (at i a).0 (at i a).1 t
        ∙ ap (index_word c.after) (div-add-mod' i l.page_words)
    index i a false t =
        behind_root (index_place l (next_root l set h c) i) (omega arith) ∙ ap mid (place i false a t)
        ∙ kept.index i a ∙ unchanged set l h c i d s.held n a t

    object : (o i : ℕ) → o < length set.objects → i < (object_at set o).size → (w : Option (List ℕ)) → written c.writes o ≡ w → mid (slot_place l set o (slice_index c.after.slots o) + i) ≡ slice_index (unwrap_or w (object_words h.objects o)) i
    object o i a b None e = ap (λ (slot : ℕ). mid (slot_place l set o slot + i)) (n.same_slot o a e) ∙ kept.objects o i a b
    object o i a b (Some wds) e = object-made set l h c words o wds i d s.held n e (omega (arith, written-write set c.writes o wds n.writes e))
