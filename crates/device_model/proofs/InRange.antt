-- All reads and writes are at places of the device, and slots that are not written keep their words.
use Rattle.std.proofs.Common.{◌≡◌, ◌≢◌, ℕ, ◌+◌, ◌-◌, ◌/◌, ◌%◌, ◌<◌, ◌≤◌, ⊎_elim, true, List, [], ◌∷◌, length, slice_index, take, Some, arith, ap, sym, ◌∙◌}
use Rattle.std.proofs.lemmas.Bool.{cases_eq, cases_lt, eq-eqb, ne_eqb, le-ltb, lt-ltb}
use Rattle.kernel_model.specs.Effects.{written}
use Rattle.kernel_model.specs.Fit.{IsWrite}
use Rattle.set_model.specs.Sets.{TaskSet, object_at}
use Rattle.set_model.specs.Numbers.{first_index, sizes_of, words_needed}
use Rattle.device_model.specs.Words.{Words, made, words_from}
use Rattle.device_model.specs.Layouts.{Layout, Migrated, layout_of, need, read_place, reads, slot_place, slots_at}
use Rattle.device_model.specs.Decoding.{Held}
use Rattle.device_model.specs.Keeping.{IsHeld}
use Rattle.device_model.specs.Places.{IsLaidOut}
use Rattle.device_model.specs.Formats.{format_body, format_writes, formatted_index, formatted_words, fresh_word}
use Rattle.set_model.specs.Formatted.{formatted}
use Rattle.device_model.specs.Commits.{Commit, IsNext, commit_body, commit_writes, is_changed, next_root, object_changes, page_changes}
use Rattle.device_model.specs.Migrations.{migration_body, migration_writes, moved_index}
use Rattle.device_model.proofs.PlaceLaws.{copy_place-high, page_of, slot_place-apart, slot_place-high, slot_place-low}
use Rattle.device_model.proofs.Writes.{Every, Every-append, Every-take, Every-written, length-words_from, untouched}
use Rattle.device_model.proofs.CommitBody.{every_object, every_page, each_write, both, from-all}

-- ---- reads

pub read-low : (set : TaskSet) (l : Layout) (root j : ℕ) → IsLaidOut set l → l.is_root root ≡ true → j < reads l → read_place l root j < need l set
read-low set l root j d r a = ⊎_elim head index (cases_lt j l.head_reads)
  where
    head : j < l.head_reads → read_place l root j < need l set
    head b = rw (lt-ltb j l.head_reads b) (⊎_elim (λ e. rw (eq-eqb j l.root_read e) (let f = d.root_first in omega arith)) (λ n. rw (ne_eqb j l.root_read n) (⊎_elim (λ m. let f = d.header_first in omega arith) (λ m. absurd (n (d.then_root j m b))) (cases_lt j (first_index set)))) (cases_eq j l.root_read))

    index : l.head_reads ≤ j → read_place l root j < need l set
    index b =
        let i : ℕ = j - l.head_reads in
        let at = page_of l i (omega arith) (let z = d.page_words in omega arith) in
        let c = d.copies root (i / l.page_words) r at.0 in
        let high = copy_place-high l (i / l.page_words) (l.copy root (i / l.page_words)) (i % l.page_words) at.0 c at.1 in
        rw (le-ltb j l.head_reads b) (omega arith)

-- ---- writes

commit_body-low : (set : TaskSet) (l : Layout) (h : Held) (c : Commit) → IsLaidOut set l → IsHeld set l h → IsNext set h c → Every (λ w. w.0 < need l set) (commit_body l set h c)
commit_body-low set l h c d k n =
    Every-append (λ w. w.0 < need l set) (object_changes l set c.after.slots c.writes) (page_changes l h.root c.after (is_changed l set h.index c) 0 l.pages)
    (every_object (λ p. p < need l set) l set c.after.slots c.writes
    (from-all (IsWrite (sizes_of set)) _ c.writes (λ w f i a. slot_place-high l set w.object (slice_index c.after.slots w.object) i f.object (n.index.named w.object f.object) (omega (arith, f.words))) n.writes))
    (every_page (λ p. p < need l set) l h.root c.after (is_changed l set h.index c) 0 l.pages (λ p i a b m. let q = d.copies h.root p k.root (omega arith) in let high = copy_place-high l p (1 - l.copy h.root p) i (omega arith) (omega arith) m in omega arith))

pub commit-low : (set : TaskSet) (l : Layout) (h : Held) (c : Commit) → IsLaidOut set l → IsHeld set l h → IsNext set h c → Every (λ w. w.0 < need l set) (commit_writes l set h c)
unfolding commit_writes
commit-low set l h c d k n = Every-append (λ w. w.0 < need l set) (commit_body l set h c) ((l.root, next_root l set h c) ∷ []) (commit_body-low set l h c d k n) (let f = d.root_first in (omega arith, tt))

pub format-low : (set : TaskSet) (l : Layout) → IsLaidOut set l → Every (λ w. w.0 < need l set) (format_writes l set)
unfolding format_writes
format-low set l d =
    let f = d.header_first in
    Every-append (λ w. w.0 < need l set) (format_body l set) ((0, l.magic) ∷ [])
    (omega arith, Every-written (λ p. p < need l set) 1 (formatted_words l set) (λ i a. omega (arith, a, length-words_from (fresh_word l set (formatted_index set) (formatted set).objects) 1 (need l set - 1))))
    (omega arith, tt)

pub migration-low : (set : TaskSet) (h : Held) → Every (λ w. w.0 < need (layout_of Migrated set) set) (migration_writes set h)
unfolding migration_writes
migration-low set h =
    let f : Words = fresh_word (layout_of Migrated set) set (moved_index set h.index) h.objects in
    let n : ℕ = need (layout_of Migrated set) set - words_needed set in
    Every-append (λ w. w.0 < need (layout_of Migrated set) set) (migration_body set h) ((0, (layout_of Migrated set).magic) ∷ [])
    (Every-written (λ p. p < need (layout_of Migrated set) set) (words_needed set) (words_from f (words_needed set) n) (λ i a. omega (arith, a, length-words_from f (words_needed set) n)))
    (omega arith, tt)

-- ---- slots that are not written

-- no write of the commit is to this slot
pub kept-slot : (set : TaskSet) (l : Layout) (h : Held) (c : Commit) (words : Words) (k o slot i : ℕ) → IsLaidOut set l → IsHeld set l h → IsNext set h c
    → o < length set.objects → slot < (object_at set o).slots → i < (object_at set o).size → ((wds : List ℕ) → written c.writes o ≡ Some wds → slice_index c.after.slots o ≢ slot)
    → made (take k (commit_writes l set h c)) words (slot_place l set o slot + i) ≡ words (slot_place l set o slot + i)
unfolding commit_writes
kept-slot set l h c words k o slot i d u n a b m other =
    untouched (take k (commit_writes l set h c)) words (slot_place l set o slot + i) (Every-take (λ w. w.0 ≢ slot_place l set o slot + i) k (commit_writes l set h c)
    (Every-append (λ w. w.0 ≢ slot_place l set o slot + i) (commit_body l set h c) ((l.root, next_root l set h c) ∷ []) body (root, tt)))
  where
    low : slots_at l ≤ slot_place l set o slot + i
    low = slot_place-low l set o slot i

    root : l.root ≢ slot_place l set o slot + i
    root e = let f = d.root_first in omega (arith, low)

    objects : Every (λ w. w.0 ≢ slot_place l set o slot + i) (object_changes l set c.after.slots c.writes)
    objects =
        every_object (λ p. p ≢ slot_place l set o slot + i) l set c.after.slots c.writes
        (from-all (λ w. (w.object ≡ o → slice_index c.after.slots o ≢ slot) × IsWrite (sizes_of set) w) _ c.writes
        (λ w f j g e. let t = f.1 in
        let apart = slot_place-apart l set w.object o (slice_index c.after.slots w.object) slot j i t.object a (n.index.named w.object t.object) b (omega (arith, t.words)) m e in
        f.0 apart.0 (ap (slice_index c.after.slots) (sym apart.0) ∙ apart.1))
        (both (λ w. w.object ≡ o → slice_index c.after.slots o ≢ slot) (IsWrite (sizes_of set)) c.writes
        (each_write (λ p wds. p ≡ o → slice_index c.after.slots o ≢ slot) c.writes n.in_order (λ p wds e f. other wds (ap (written c.writes) (sym f) ∙ e))) n.writes))

    body : Every (λ w. w.0 ≢ slot_place l set o slot + i) (commit_body l set h c)
    body =
        Every-append (λ w. w.0 ≢ slot_place l set o slot + i) (object_changes l set c.after.slots c.writes) (page_changes l h.root c.after (is_changed l set h.index c) 0 l.pages) objects
        (every_page (λ p. p ≢ slot_place l set o slot + i) l h.root c.after (is_changed l set h.index c) 0 l.pages (λ p j x y z e. let q = d.copies h.root p u.root (omega arith) in let high = copy_place-high l p (1 - l.copy h.root p) j (omega arith) (omega arith) z in omega (arith, low)))
