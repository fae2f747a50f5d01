-- The images of a migration.
use Rattle.std.proofs.Common.{ap, ◌≡◌, ◌≢◌, ℕ, zero, suc, ◌+◌, ◌-◌, ◌<◌, ◌≤◌, ⊎_elim, List, [], ◌∷◌, length, slice_index, take, Option, Some, None, arith, refl, sym, ◌∙◌, subst, get_or}
use Rattle.std.proofs.lemmas.List.{length-append, length-replicate, get_or_append_left, get_or-append_right}
use Rattle.kernel_model.specs.Items.{Entry}
use Rattle.kernel_model.specs.Fit.{IsLast}
use Rattle.set_model.specs.Sets.{TaskSet}
use Rattle.set_model.specs.Limits.{IsTaskSet}
use Rattle.set_model.specs.Numbers.{first_index, words_needed}
use Rattle.device_model.specs.Words.{Words, Change, made, with_word, words_from}
use Rattle.device_model.specs.Layouts.{Plain, Migrated, Layout, layout_of, magic_of, header_word, need}
use Rattle.device_model.specs.IndexWords.{base_of}
use Rattle.device_model.specs.Decoding.{Held}
use Rattle.device_model.specs.Keeping.{IsFree, IsHeld, Keeps}
use Rattle.device_model.specs.Places.{IsLaidOut}
use Rattle.device_model.specs.Formats.{fresh_word}
use Rattle.device_model.specs.Migrations.{migration_body, migration_writes, moved_held, moved_index, moved_word}
use Rattle.device_model.proofs.LaidOut.{laid_out_set}
use Rattle.device_model.proofs.PlaceLaws.{slot_place-high}
use Rattle.device_model.proofs.Writes.{Every, Every-same, Every-take, Every-written, length-words_from, length-written, made-last, take-body, untouched, with_word-other, with_word-same, written-at, word_from}
use Rattle.device_model.proofs.Free.{free_keeps, in_page}
use Rattle.device_model.proofs.Fresh.{first_slot, fresh_keeps, put_in_order, two_slots}

-- behind all words of a device there is none on which the state rests
pub behind-free : (set : TaskSet) (l : Layout) (h : Held) (p : ℕ) → IsLaidOut set l → IsHeld set l h → need l set ≤ p → IsFree set l h p
behind-free set l h p d k a = record {
  header = let f = d.header_first in omega arith;
  root = λ e. let f = d.root_first in omega arith;
  index = λ i b e. let f = in_page set l h i d k b in omega (arith, f.1);
  objects = λ o i b c e. let f = slot_place-high l set o (slice_index h.index.slots o) i b (k.index.named o b) c in omega arith;
}

-- format 1 needs the words in front of the moved part
plain_need : (set : TaskSet) → need (layout_of Plain set) set ≡ words_needed set
plain_need set = omega arith

pub length-migration : (set : TaskSet) (h : Held) → length (migration_writes set h) ≡ need (layout_of Migrated set) set - words_needed set + 1
unfolding migration_writes
length-migration set h =
    let f : Words = fresh_word (layout_of Migrated set) set (moved_index set h.index) h.objects in
    let n : ℕ = need (layout_of Migrated set) set - words_needed set in
    omega (arith, length-append (migration_body set h) ((0, magic_of Migrated) ∷ []), length-written (words_needed set) (words_from f (words_needed set) n), length-words_from f (words_needed set) n)

body_places : (set : TaskSet) (h : Held) → Every (λ w. words_needed set ≤ w.0) (migration_body set h)
body_places set h = Every-written (λ p. words_needed set ≤ p) (words_needed set) (words_from (fresh_word (layout_of Migrated set) set (moved_index set h.index) h.objects) (words_needed set) (need (layout_of Migrated set) set - words_needed set)) (λ i a. omega arith)

-- each image but the last keeps the state of format 1
pub migration_prefix : (set : TaskSet) (h : Held) (words : Words) (k : ℕ) → IsTaskSet set → Keeps Plain set h words → k < length (migration_writes set h) → Keeps Plain set h (made (take k (migration_writes set h)) words)
unfolding migration_writes
migration_prefix set h words k t s a =
    subst (λ (log : List Change). Keeps Plain set h (made log words)) (sym (take-body k (migration_body set h) (0, magic_of Migrated) a))
    (free_keeps set (layout_of Plain set) h (take k (migration_body set h)) words (Every-take (λ w. IsFree set (layout_of Plain set) h w.0) k (migration_body set h)
    (Every-same (λ w. words_needed set ≤ w.0) (λ w. IsFree set (layout_of Plain set) h w.0) (migration_body set h) (λ w b. behind-free set (layout_of Plain set) h w.0 (laid_out_set Plain set t) s.held (omega (arith, plain_need set, b))) (body_places set h))) s)

moved_fits : (set : TaskSet) (h : Held) → IsTaskSet set → IsHeld set (layout_of Plain set) h → IsHeld set (layout_of Migrated set) (moved_held set h)
moved_fits set h t k =
    let x = k.index in record {
      index = record {
        clock = x.clock;
        next = x.next;
        last = last h.index.last x.last;
        slots = length-replicate (length set.objects) 0;
        named = λ o a. let two = two_slots set o t a in omega (arith, first_slot set o a);
        records = x.records;
        in_order = x.in_order;
        positive = x.positive;
        old = x.old;
        programs = x.programs;
      };
      objects = k.objects;
      words = k.words;
      root = (laid_out_set Migrated set t).is_first_root;
    }
  where
    last : (e : Option Entry) → IsLast (base_of h.index []) e → IsLast (base_of (moved_index set h.index) []) e
    last None z = z
    last (Some e) z = record { number = z.number; counted = z.counted; task = z.task; older = z.older; first = z.first; children = z.children; point = z.point; outcome = z.outcome }

-- only word 0 of the header differs
header_same : (set : TaskSet) (j : ℕ) → header_word (layout_of Plain set) set (suc j) ≡ header_word (layout_of Migrated set) set (suc j)
header_same set j = refl

-- and the last one keeps it in format 2
pub migration_whole : (set : TaskSet) (h : Held) (words : Words) → IsTaskSet set → Keeps Plain set h words → Keeps Migrated set (moved_held set h) (made (migration_writes set h) words)
unfolding migration_writes
migration_whole set h words t s = subst (Keeps Migrated set (moved_held set h)) (sym (made-last (migration_body set h) (0, magic_of Migrated) words))
    (fresh_keeps set (layout_of Migrated set) (moved_index set h.index) h.objects h.boots (with_word (0, magic_of Migrated) mid) (laid_out_set Migrated set t) t (moved_fits set h t s.held) refl header boots
    (λ p where_ a. at p (⊎_elim (λ e. omega arith) (λ e. omega arith) where_) a))
  where
    mid : Words
    mid = made (migration_body set h) words

    old : (j : ℕ) → j < words_needed set → mid j ≡ words j
    old j a = untouched (migration_body set h) words j (Every-same (λ w. words_needed set ≤ w.0) (λ w. w.0 ≢ j) (migration_body set h) (λ w b e. omega arith) (body_places set h))

    at : (p : ℕ) → words_needed set ≤ p → p < need (layout_of Migrated set) set → with_word (0, magic_of Migrated) mid p ≡ fresh_word (layout_of Migrated set) set (moved_index set h.index) h.objects p
    at p a b =
        with_word-other (0, magic_of Migrated) mid p (λ e. omega arith)
        ∙ put_in_order (fresh_word (layout_of Migrated set) set (moved_index set h.index) h.objects) words (words_needed set) (need (layout_of Migrated set) set - words_needed set) p a (omega arith)

    header : (j : ℕ) → j < first_index set → j ≢ 1 → j ≢ 2 → with_word (0, magic_of Migrated) mid j ≡ header_word (layout_of Migrated set) set j
    header zero a m n = with_word-same (0, magic_of Migrated) mid 0 refl
    header (suc j) a m n = with_word-other (0, magic_of Migrated) mid (suc j) (λ e. omega arith) ∙ old (suc j) (omega arith) ∙ s.header (suc j) a m n ∙ header_same set j

    boots : with_word (0, magic_of Migrated) mid 2 ≡ h.boots
    boots = with_word-other (0, magic_of Migrated) mid 2 (λ e. omega arith) ∙ old 2 (omega arith) ∙ s.boots

-- ---- write number k

length-moved : (set : TaskSet) (h : Held) → length (migration_body set h) ≡ need (layout_of Migrated set) set - words_needed set
length-moved set h =
    let n : ℕ = need (layout_of Migrated set) set - words_needed set in
    length-written (words_needed set) (words_from (moved_word set h) (words_needed set) n) ∙ length-words_from (moved_word set h) (words_needed set) n

pub migration_write_at : (set : TaskSet) (h : Held) (k : ℕ) → words_needed set + k < need (layout_of Migrated set) set → get_or (migration_writes set h) k (0, 0) ≡ (words_needed set + k, moved_word set h (words_needed set + k))
unfolding migration_writes
migration_write_at set h k a =
    let n : ℕ = need (layout_of Migrated set) set - words_needed set in
    let long = length-words_from (moved_word set h) (words_needed set) n in
    get_or_append_left (migration_body set h) ((0, magic_of Migrated) ∷ []) (0, 0) k (omega (arith, length-moved set h))
    ∙ written-at (words_needed set) (words_from (moved_word set h) (words_needed set) n) k (omega (arith, long))
    ∙ ap (λ (w : ℕ). let c : Change = (words_needed set + k, w) in c) (word_from (moved_word set h) (words_needed set) n k (omega arith))

pub migration_write_last : (set : TaskSet) (h : Held) → get_or (migration_writes set h) (need (layout_of Migrated set) set - words_needed set) (0, 0) ≡ (0, magic_of Migrated)
unfolding migration_writes
migration_write_last set h =
    let n : ℕ = need (layout_of Migrated set) set - words_needed set in
    let e : n - n ≡ 0 = omega arith in
    get_or-append_right (migration_body set h) ((0, magic_of Migrated) ∷ []) n n (0, 0) (length-moved set h) (omega arith) ∙ ap (λ (i : ℕ). get_or ((0, magic_of Migrated) ∷ []) i (0, 0)) e
