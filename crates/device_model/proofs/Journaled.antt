-- The images of commits and boots, one after another.
use Rattle.std.proofs.Common.{◌≡◌, ◌≢◌, ℕ, zero, suc, ◌+◌, ◌-◌, ◌<◌, ◌≤◌, ⊎_elim, List, [], ◌∷◌, ◌++◌, length, slice_index, take, arith, refl, ap, sym, ◌∙◌}
use Rattle.std.proofs.lemmas.Bool.{cases_lt, le-ltb, lt-ltb}
use Rattle.std.proofs.lemmas.List.{length-take, take-append-le, take-take}
use Rattle.std.proofs.Math.Seq.{take-append-add}
use Rattle.set_model.specs.Sets.{TaskSet}
use Rattle.device_model.specs.Words.{Words, made, with_word}
use Rattle.device_model.specs.Layouts.{Layout, index_place, slot_place}
use Rattle.device_model.specs.Decoding.{Held}
use Rattle.device_model.specs.Keeping.{KeepsIn}
use Rattle.device_model.specs.Places.{IsLaidOut}
use Rattle.device_model.specs.Journals.{Act, AreNext, Boots, Commits, Cuts, IsNextAct, act_writes, acted, booted, boot_writes, held_at, journal}
use Rattle.device_model.specs.Commits.{commit_writes}
use Rattle.device_model.proofs.PlaceLaws.{slot_place-low}
use Rattle.device_model.proofs.Writes.{made-append, with_word-other, with_word-same}
use Rattle.device_model.proofs.Free.{header-root, in_page}
use Rattle.device_model.proofs.Committed.{commit_prefix, commit_whole}

-- a boot counts, and leaves all else
pub boot_whole : (set : TaskSet) (l : Layout) (h : Held) (words : Words) → IsLaidOut set l → KeepsIn set l h words → KeepsIn set l (booted h) (made (boot_writes h) words)
boot_whole set l h words d s = record {
  held = record { index = s.held.index; objects = s.held.objects; words = s.held.words; root = s.held.root };
  header = λ j a m n. other j (λ e. n (sym e)) ∙ s.header j a m n;
  boots = with_word-same (2, h.boots + 1) words 2 refl;
  root = other l.root (λ e. header-root set l 2 d (omega arith) (λ f. omega arith) (sym e)) ∙ s.root;
  index = λ i a. other (index_place l h.root i) (λ e. let f = in_page set l h i d s.held a in let g = d.header_first in omega (arith, f.0)) ∙ s.index i a;
  objects = λ o i a b. other (slot_place l set o (slice_index h.index.slots o) + i) (λ e. let f = slot_place-low l set o (slice_index h.index.slots o) i in let g = d.header_first in omega arith) ∙ s.objects o i a b;
}
  where
    other : (p : ℕ) → 2 ≢ p → with_word (2, h.boots + 1) words p ≡ words p
    other p n = with_word-other (2, h.boots + 1) words p n

-- ---- one act

pub act_prefix : (set : TaskSet) (l : Layout) (h : Held) (a : Act) (words : Words) (k : ℕ) → IsLaidOut set l → IsNextAct l set h a → KeepsIn set l h words → k < length (act_writes l set h a) → KeepsIn set l h (made (take k (act_writes l set h a)) words)
act_prefix set l h (Commits c) words k d n s b = commit_prefix set l h c words k d n s b
act_prefix set l h (Cuts c count) words k d n s b =
    let e : take k (take count (commit_writes l set h c)) ≡ take k (commit_writes l set h c) = take-take k count (commit_writes l set h c) (omega (arith, b, length-take count (commit_writes l set h c))) in
    rw e (commit_prefix set l h c words k d n.0 s (omega (arith, b, length-take count (commit_writes l set h c))))
act_prefix set l h Boots words zero d n s b = s
act_prefix set l h Boots words (suc k) d n s b = absurd (omega arith)

pub act_whole : (set : TaskSet) (l : Layout) (h : Held) (a : Act) (words : Words) → IsLaidOut set l → IsNextAct l set h a → KeepsIn set l h words → KeepsIn set l (acted l set h a) (made (act_writes l set h a) words)
act_whole set l h (Commits c) words d n s = commit_whole set l h c words d n s
act_whole set l h (Cuts c count) words d n s = commit_prefix set l h c words count d n.0 s n.1
act_whole set l h Boots words d n s = boot_whole set l h words d s

-- ---- all of them

pub journal_image : (set : TaskSet) (l : Layout) (h : Held) (acts : List Act) (words : Words) (k : ℕ) → IsLaidOut set l → AreNext l set h acts → KeepsIn set l h words → KeepsIn set l (held_at l set h acts k) (made (take k (journal l set h acts)) words)
journal_image set l h [] words zero d n s = s
journal_image set l h [] words (suc k) d n s = s
journal_image set l h (a ∷ acts) words k d n s = ⊎_elim cut (λ b. whole b (journal_image set l (acted l set h a) acts (made (act_writes l set h a) words) (k - length (act_writes l set h a)) d n.1 (act_whole set l h a words d n.0 s))) (cases_lt k (length (act_writes l set h a)))
  where
    cut : k < length (act_writes l set h a) → KeepsIn set l (held_at l set h (a ∷ acts) k) (made (take k (journal l set h (a ∷ acts))) words)
    cut b =
        let e : take k (act_writes l set h a ++ journal l set (acted l set h a) acts) ≡ take k (act_writes l set h a) = take-append-le k (act_writes l set h a) (journal l set (acted l set h a) acts) (omega arith) in
        rw (lt-ltb k (length (act_writes l set h a)) b, e) (act_prefix set l h a words k d n.0 s b)

    whole : length (act_writes l set h a) ≤ k → KeepsIn set l (held_at l set (acted l set h a) acts (k - length (act_writes l set h a))) (made (take (k - length (act_writes l set h a)) (journal l set (acted l set h a) acts)) (made (act_writes l set h a) words))
        → KeepsIn set l (held_at l set h (a ∷ acts) k) (made (take k (journal l set h (a ∷ acts))) words)
    whole b rest =
        let m : ℕ = k - length (act_writes l set h a) in
        let is : k ≡ length (act_writes l set h a) + m = omega arith in
        let e : take k (act_writes l set h a ++ journal l set (acted l set h a) acts) ≡ act_writes l set h a ++ take m (journal l set (acted l set h a) acts) =
        ap (λ (j : ℕ). take j (act_writes l set h a ++ journal l set (acted l set h a) acts)) is ∙ take-append-add (act_writes l set h a) (journal l set (acted l set h a) acts) m in
        rw (le-ltb k (length (act_writes l set h a)) b, e, made-append (act_writes l set h a) (take m (journal l set (acted l set h a) acts)) words) rest
