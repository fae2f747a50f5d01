-- Words that decode to a state keep it.
use Rattle.std.proofs.Common.{◌≡◌, ◌≢◌, ℕ, zero, suc, ◌+◌, ◌-◌, ◌<◌, ◌≤◌, ⊎_elim, Bool, true, false, cond, eqb, List, [], length, slice_index, Option, Some, None, arith, refl, ap, sym, ◌∙◌, subst}
use Rattle.std.proofs.lemmas.Bool.{cases_lt, eq-eqb, ne_eqb, not-false, le-ltb, lt-ltb}
use Rattle.kernel_model.specs.Effects.{object_words}
use Rattle.set_model.specs.Sets.{TaskSet, object_at}
use Rattle.kernel_model.specs.Items.{Entry}
use Rattle.kernel_model.specs.Fit.{IsBase, IsLast}
use Rattle.set_model.specs.Numbers.{first_index, sizes_of}
use Rattle.device_model.specs.Words.{Words, words_from}
use Rattle.device_model.specs.Layouts.{Kind, Layout, layout_of, kind_named, header_word, index_reads, read_place, reads, slot_place}
use Rattle.device_model.specs.IndexWords.{Index, base_of, read_index}
use Rattle.device_model.specs.Decoding.{Held, Stored, Blank, Damaged, Holds, decode_by, decode_kind, decided, durable_of, first_fault, first_true, held_by, index_in, is_faulty_head, is_faulty_read, read_objects}
use Rattle.device_model.specs.Keeping.{IsHeld, KeepsIn, Keeps}
use Rattle.device_model.specs.Places.{IsLaidOut}
use Rattle.device_model.proofs.Writes.{length-words_from, word_from}
use Rattle.device_model.proofs.IndexReading.{AreSound}
use Rattle.device_model.proofs.IndexBack.{sound_index, sound_words}
use Rattle.device_model.proofs.KeepsDecodes.{first_true-all, first_true-none}
use Rattle.device_model.proofs.Tests.{from-not_eq}

-- none of the words that are read is faulty
abbrev NoFault : TaskSet → Layout → Words → Type 0
NoFault set l words = (j : ℕ) → j < reads l → is_faulty_read l set words j ≡ false

head-sound : (set : TaskSet) (l : Layout) (words : Words) → IsLaidOut set l → NoFault set l words → (j : ℕ) → j < l.head_reads → is_faulty_head l set j (words (cond (eqb j l.root_read) l.root j)) ≡ false
head-sound set l words d f j a = let e : is_faulty_read l set words j ≡ false = f j (omega arith) in rw (lt-ltb j l.head_reads a) at e

root-sound : (set : TaskSet) (l : Layout) (words : Words) → IsLaidOut set l → NoFault set l words → l.is_root (words l.root) ≡ true
root-sound set l words d f = not-false (l.is_root (words l.root)) (let e = head-sound set l words d f l.root_read d.root_in in rw (eq-eqb l.root_read l.root_read refl) at e)

header-sound : (set : TaskSet) (l : Layout) (words : Words) → IsLaidOut set l → NoFault set l words → (j : ℕ) → j < first_index set → j ≢ 1 → j ≢ 2 → words j ≡ header_word l set j
header-sound set l words d f j a m n =
    let other : j ≢ l.root_read = λ e. ⊎_elim (λ one. m (e ∙ one)) (λ high. omega arith) d.root_once in
    let e = head-sound set l words d f j (omega (arith, d.head_read)) in
    from-not_eq (words j) (header_word l set j) (rw (ne_eqb j l.root_read other, ne_eqb j 1 m, ne_eqb j 2 n) at e)

index-sound : (set : TaskSet) (l : Layout) (words : Words) → NoFault set l words → AreSound set (index_in l words) (index_reads l)
index-sound set l words f i a =
    let e : l.head_reads + i - l.head_reads ≡ i = omega arith in
    let g : is_faulty_read l set words (l.head_reads + i) ≡ false = f (l.head_reads + i) (omega arith) in
    rw (le-ltb (l.head_reads + i) l.head_reads (omega arith), e) at g

-- ---- objects

length-read : (set : TaskSet) (l : Layout) (words : Words) (slots : List ℕ) (o n : ℕ) → length (read_objects l set words slots o n) ≡ n
length-read set l words slots o zero = refl
length-read set l words slots o (suc n) = ap suc (length-read set l words slots (o + 1) n)

object-at : (set : TaskSet) (l : Layout) (words : Words) (slots : List ℕ) (o n k : ℕ) → k < n → object_words (read_objects l set words slots o n) k ≡ words_from words (slot_place l set (o + k) (slice_index slots (o + k))) (object_at set (o + k)).size
object-at set l words slots o zero k a = absurd (omega arith)
object-at set l words slots o (suc n) zero a = let e : o ≡ o + 0 = omega arith in ap (λ (p : ℕ). words_from words (slot_place l set p (slice_index slots p)) (object_at set p).size) e
object-at set l words slots o (suc n) (suc k) a = let e : o + 1 + k ≡ o + suc k = omega arith in object-at set l words slots (o + 1) n k (omega arith) ∙ ap (λ (p : ℕ). words_from words (slot_place l set p (slice_index slots p)) (object_at set p).size) e

object-first : (set : TaskSet) (l : Layout) (words : Words) (slots : List ℕ) (o : ℕ) → o < length set.objects → object_words (read_objects l set words slots 0 (length set.objects)) o ≡ words_from words (slot_place l set o (slice_index slots o)) (object_at set o).size
object-first set l words slots o a = let e : 0 + o ≡ o = omega arith in object-at set l words slots 0 (length set.objects) o a ∙ ap (λ (p : ℕ). words_from words (slot_place l set p (slice_index slots p)) (object_at set p).size) e

pub sound_keeps : (set : TaskSet) (l : Layout) (words : Words) → IsLaidOut set l → NoFault set l words → KeepsIn set l (held_by l set words (read_index (length set.objects) (index_in l words))) words
sound_keeps set l words d f =
    let x : Index = read_index (length set.objects) (index_in l words) in record {
      held = record {
        index = sound_index set (index_in l words) (index_reads l) d.fits (index-sound set l words f);
        objects = length-read set l words x.slots 0 (length set.objects);
        words = λ o a. ap length (object-first set l words x.slots o a) ∙ length-words_from words (slot_place l set o (slice_index x.slots o)) (object_at set o).size;
        root = root-sound set l words d f;
      };
      header = header-sound set l words d f;
      boots = refl;
      root = refl;
      index = λ i a. sym (sound_words set (index_in l words) (index_reads l) d.fits (index-sound set l words f) i a);
      objects = λ o i a b. sym (ap (λ (ws : List ℕ). slice_index ws i) (object-first set l words x.slots o a) ∙ word_from words (slot_place l set o (slice_index x.slots o)) (object_at set o).size i b);
    }

-- ---- what is decoded

abbrev held-of : Stored → Option (Kind × Held)
held-of Blank = None
held-of (Damaged place) = None
held-of (Holds kind h) = Some (kind, h)

some-same : (x y : Kind × Held) → Some x ≡ Some y → x ≡ y
some-same x y e = cc e

pub decodes_keeps : (format : ℕ) (kind : Kind) (set : TaskSet) (h : Held) (words : Words) → ((k : Kind) → IsLaidOut set (layout_of k set)) → decode_by format set words ≡ Holds kind h → Keeps kind set h words
unfolding decode_by decode_kind
decodes_keeps format kind set h words d e = by_blank (eqb (words 0) 0) refl
  where
    by_fault : (k : Kind) (fault : Option ℕ) → first_fault (layout_of k set) set words ≡ fault → decided k set words fault ≡ Holds kind h → Keeps kind set h words
    by_fault k (Some j) f g = let u : None ≡ Some (kind, h) = ap held-of g in cc u
    by_fault k None f g =
        let s = sound_keeps set (layout_of k set) words (d k) (λ j a. first_true-all (is_faulty_read (layout_of k set) set words) 0 (reads (layout_of k set)) f j (omega arith) (omega arith)) in
        let u : (k, held_by (layout_of k set) set words (read_index (length set.objects) (index_in (layout_of k set) words))) ≡ (kind, h) = some-same _ _ (ap held-of g) in
        subst (λ (p : Kind × Held). Keeps p.0 set p.1 words) u s

    by_kind : (k : Option Kind) → decode_kind set words k ≡ Holds kind h → Keeps kind set h words
    by_kind None g = let u : None ≡ Some (kind, h) = ap held-of g in cc u
    by_kind (Some k) g = by_fault k (first_fault (layout_of k set) set words) refl g

    by_blank : (b : Bool) → eqb (words 0) 0 ≡ b → Keeps kind set h words
    by_blank true f = let g : Blank ≡ Holds kind h = rw f at e in let u : None ≡ Some (kind, h) = ap held-of g in cc u
    by_blank false f = let g : decode_kind set words (kind_named format (words 0)) ≡ Holds kind h = rw f at e in by_kind (kind_named format (words 0)) g

-- ---- the first word, and the first fault

pub decodes_blank : (format : ℕ) (set : TaskSet) (words : Words) → words 0 ≡ 0 → decode_by format set words ≡ Blank
unfolding decode_by
decodes_blank format set words z = rw (eq-eqb (words 0) 0 z) refl

pub decodes_other : (format : ℕ) (set : TaskSet) (words : Words) → words 0 ≢ 0 → kind_named format (words 0) ≡ None → decode_by format set words ≡ Damaged 0
unfolding decode_by decode_kind
decodes_other format set words z e =
    ap (λ (b : Bool). cond b Blank (decode_kind set words (kind_named format (words 0)))) (ne_eqb (words 0) 0 z) ∙ ap (decode_kind set words) e

first_true-some : (test : ℕ → Bool) (from n j : ℕ) → from ≤ j → j < from + n → ((k : ℕ) → from ≤ k → k < j → test k ≡ false) → test j ≡ true → first_true test from n ≡ Some j
first_true-some test from zero j l m h t = absurd (omega arith)
first_true-some test from (suc n) j l m h t = ⊎_elim (later (λ p. first_true-some test (from + 1) n j p (omega arith) (λ k q r. h k (omega arith) r) t)) here (cases_lt from j)
  where
    later : (from + 1 ≤ j → first_true test (from + 1) n ≡ Some j) → from < j → first_true test from (suc n) ≡ Some j
    later rest p = rw (h from (omega arith) p) (rest (omega arith))

    here : j ≤ from → first_true test from (suc n) ≡ Some j
    here p = let same : from ≡ j = omega arith in rw (same, t) refl

pub decodes_damaged : (format : ℕ) (kind : Kind) (set : TaskSet) (words : Words) (j : ℕ) → words 0 ≢ 0 → kind_named format (words 0) ≡ Some kind → j < reads (layout_of kind set)
    → ((k : ℕ) → k < j → is_faulty_read (layout_of kind set) set words k ≡ false) → is_faulty_read (layout_of kind set) set words j ≡ true
    → decode_by format set words ≡ Damaged (read_place (layout_of kind set) (words (layout_of kind set).root) j)
unfolding decode_by decode_kind
decodes_damaged format kind set words j z e a f t =
    ap (λ (b : Bool). cond b Blank (decode_kind set words (kind_named format (words 0)))) (ne_eqb (words 0) 0 z)
    ∙ ap (decode_kind set words) e
    ∙ ap (decided kind set words) (first_true-some (is_faulty_read (layout_of kind set) set words) 0 (reads (layout_of kind set)) j (omega arith) (omega arith) (λ k p q. f k q) t)

-- ---- the kernel's model of it

pub held_fits : (set : TaskSet) (l : Layout) (h : Held) → IsHeld set l h → IsBase (sizes_of set) (durable_of h).state × IsLast (durable_of h).state (durable_of h).last
held_fits set l h k = (
  record {
    objects = k.objects;
    words = k.words;
    in_order = k.index.in_order;
    positive = k.index.positive;
    old = k.index.old;
    programs = k.index.programs;
    records = k.index.records;
    clock = k.index.clock;
    next = k.index.next;
  },
  last h.index.last k.index.last,
)
  where
    last : (e : Option Entry) → IsLast (base_of h.index []) e → IsLast (base_of h.index h.objects) e
    last None z = z
    last (Some e) z = record { number = z.number; counted = z.counted; task = z.task; older = z.older; first = z.first; children = z.children; point = z.point; outcome = z.outcome }

-- words without a fault
pub decodes_held : (format : ℕ) (kind : Kind) (set : TaskSet) (words : Words) → words 0 ≢ 0 → kind_named format (words 0) ≡ Some kind
    → ((j : ℕ) → j < reads (layout_of kind set) → is_faulty_read (layout_of kind set) set words j ≡ false)
    → decode_by format set words ≡ Holds kind (held_by (layout_of kind set) set words (read_index (length set.objects) (index_in (layout_of kind set) words)))
unfolding decode_by decode_kind
decodes_held format kind set words z e f =
    ap (λ (b : Bool). cond b Blank (decode_kind set words (kind_named format (words 0)))) (ne_eqb (words 0) 0 z)
    ∙ ap (decode_kind set words) e
    ∙ ap (decided kind set words) (first_true-none (is_faulty_read (layout_of kind set) set words) 0 (reads (layout_of kind set)) (λ k p q. f k (omega arith)))
