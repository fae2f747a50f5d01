-- Words that keep a state decode to it.
use Rattle.std.proofs.Common.{◌≡◌, ◌≢◌, ℕ, zero, suc, ◌+◌, ◌-◌, ◌<◌, ◌≤◌, ⊎_elim, Bool, true, false, not, cond, eqb, List, [], ◌∷◌, length, slice_index, Some, None, arith, refl, ap, sym, ◌∙◌}
use Rattle.std.proofs.lemmas.Bool.{cases_eq, cases_lt, eq-eqb, ne_eqb, le-ltb, lt-ltb}
use Rattle.kernel_model.specs.Effects.{Objects, object_words}
use Rattle.set_model.specs.Sets.{TaskSet, object_at}
use Rattle.set_model.specs.Numbers.{first_index}
use Rattle.device_model.specs.Words.{Words, words_from}
use Rattle.device_model.specs.Layouts.{Kind, Plain, Paged, Migrated, Layout, layout_of, magic_of, kind_named, header_word, index_place, index_reads, reads, slot_place}
use Rattle.device_model.specs.IndexWords.{Index, index_word, is_faulty, read_index}
use Rattle.device_model.specs.Decoding.{Held, Blank, Holds, decode_by, decode_kind, decided, first_fault, first_true, held_by, index_in, is_faulty_head, is_faulty_read, read_objects}
use Rattle.device_model.specs.Keeping.{KeepsIn, Keeps}
use Rattle.device_model.specs.Places.{IsLaidOut}
use Rattle.device_model.proofs.Writes.{words_are}
use Rattle.device_model.proofs.IndexLists.{read_index-same, word-count}
use Rattle.device_model.proofs.IndexFaults.{index-holds}
use Rattle.device_model.proofs.IndexReading.{read_back}
use Rattle.device_model.proofs.IndexBack.{fault-same}
use Rattle.device_model.proofs.Tests.{not_eq-false}

-- ---- the first number at which a test holds

pub first_true-none : (test : ℕ → Bool) (from n : ℕ) → ((k : ℕ) → from ≤ k → k < from + n → test k ≡ false) → first_true test from n ≡ None
first_true-none test from zero h = refl
first_true-none test from (suc n) h = rw (h from (omega arith) (omega arith)) (first_true-none test (from + 1) n (λ k l m. h k (omega arith) (omega arith)))

pub first_true-all : (test : ℕ → Bool) (from n : ℕ) → first_true test from n ≡ None → (k : ℕ) → from ≤ k → k < from + n → test k ≡ false
first_true-all test from zero e k l m = absurd (omega arith)
first_true-all test from (suc n) e k l m = by_test (test from) refl (λ u p. first_true-all test (from + 1) n u k p (omega arith))
  where
    by_test : (b : Bool) → test from ≡ b → (first_true test (from + 1) n ≡ None → from + 1 ≤ k → test k ≡ false) → test k ≡ false
    by_test true t rest = let u : Some from ≡ None = rw t at e in cc
    by_test false t rest =
        let u : first_true test (from + 1) n ≡ None = rw t at e in
        ⊎_elim (λ p. rest u (omega arith)) (λ p. let same : k ≡ from = omega arith in rw same t) (cases_lt from k)

-- ---- no word is faulty

index-kept : (set : TaskSet) (l : Layout) (h : Held) (words : Words) → KeepsIn set l h words → (i : ℕ) → i < index_reads l → index_in l words i ≡ index_word h.index i
index-kept set l h words k i a = ap (λ (r : ℕ). words (index_place l r i)) k.root ∙ k.index i a

head-kept : (set : TaskSet) (l : Layout) (h : Held) (words : Words) → IsLaidOut set l → KeepsIn set l h words → (j : ℕ) → j < l.head_reads → is_faulty_head l set j (words (cond (eqb j l.root_read) l.root j)) ≡ false
head-kept set l h words d k j a = ⊎_elim root (λ n. ⊎_elim (one n) (λ m. ⊎_elim (two n m) (other n m) (cases_eq j 2)) (cases_eq j 1)) (cases_eq j l.root_read)
  where
    root : j ≡ l.root_read → is_faulty_head l set j (words (cond (eqb j l.root_read) l.root j)) ≡ false
    root e = rw (eq-eqb j l.root_read e) (ap not (ap l.is_root k.root ∙ k.held.root))

    one : j ≢ l.root_read → j ≡ 1 → is_faulty_head l set j (words (cond (eqb j l.root_read) l.root j)) ≡ false
    one n e = rw (ne_eqb j l.root_read n, eq-eqb j 1 e) refl

    two : j ≢ l.root_read → j ≢ 1 → j ≡ 2 → is_faulty_head l set j (words (cond (eqb j l.root_read) l.root j)) ≡ false
    two n m e = rw (ne_eqb j l.root_read n, ne_eqb j 1 m, eq-eqb j 2 e) refl

    low : j ≢ l.root_read → j < first_index set
    low n = ⊎_elim (λ b. b) (λ b. absurd (n (d.then_root j b a))) (cases_lt j (first_index set))

    other : j ≢ l.root_read → j ≢ 1 → j ≢ 2 → is_faulty_head l set j (words (cond (eqb j l.root_read) l.root j)) ≡ false
    other n m p = rw (ne_eqb j l.root_read n, ne_eqb j 1 m, ne_eqb j 2 p) (not_eq-false (words j) (header_word l set j) (k.header j (low n) m p))

read-kept : (set : TaskSet) (l : Layout) (h : Held) (words : Words) → IsLaidOut set l → KeepsIn set l h words → (j : ℕ) → j < reads l → is_faulty_read l set words j ≡ false
read-kept set l h words d k j a = ⊎_elim head index (cases_lt j l.head_reads)
  where
    head : j < l.head_reads → is_faulty_read l set words j ≡ false
    head b = rw (lt-ltb j l.head_reads b) (head-kept set l h words d k j b)

    index : l.head_reads ≤ j → is_faulty_read l set words j ≡ false
    index b =
        let i : ℕ = j - l.head_reads in
        rw (le-ltb j l.head_reads b) (fault-same set (index_in l words) (index_word h.index) i (index_in l words i) (λ m q. index-kept set l h words k m (omega arith))
        ∙ ap (is_faulty set (index_word h.index) i) (index-kept set l h words k i (omega arith)) ∙ index-holds set h.index k.held.index i)

-- ---- the state that is read

objects-read : (set : TaskSet) (l : Layout) (words : Words) (slots : List ℕ) (objects : Objects) (o : ℕ)
    → ((k : ℕ) → k < length objects → words_from words (slot_place l set (o + k) (slice_index slots (o + k))) (object_at set (o + k)).size ≡ object_words objects k) → read_objects l set words slots o (length objects) ≡ objects
objects-read set l words slots [] o h = refl
objects-read set l words slots (ws ∷ objects) o h =
    let e : o ≡ o + 0 = omega arith in
    ap (λ (first : List ℕ). first ∷ read_objects l set words slots (o + 1) (length objects)) (ap (λ (p : ℕ). words_from words (slot_place l set p (slice_index slots p)) (object_at set p).size) e ∙ h 0 (omega arith))
    ∙ ap (λ (rest : Objects). ws ∷ rest) (objects-read set l words slots objects (o + 1) (λ k a. let f : o + 1 + k ≡ o + suc k = omega arith in ap (λ (p : ℕ). words_from words (slot_place l set p (slice_index slots p)) (object_at set p).size) f ∙ h (suc k) (omega arith)))

object-read : (set : TaskSet) (l : Layout) (h : Held) (words : Words) → KeepsIn set l h words → (o : ℕ) → o < length set.objects → words_from words (slot_place l set o (slice_index h.index.slots o)) (object_at set o).size ≡ object_words h.objects o
object-read set l h words k o a =
    ap (words_from words (slot_place l set o (slice_index h.index.slots o))) (sym (k.held.words o a))
    ∙ words_are words (slot_place l set o (slice_index h.index.slots o)) (object_words h.objects o) (λ i b. k.objects o i a (omega (arith, k.held.words o a)))

pub index-read : (set : TaskSet) (l : Layout) (h : Held) (words : Words) → IsLaidOut set l → KeepsIn set l h words → read_index (length set.objects) (index_in l words) ≡ h.index
index-read set l h words d k =
    let count : index_in l words 8 ≡ length h.index.tasks = index-kept set l h words k 8 (omega (arith, d.fits)) ∙ word-count h.index in
    let most = k.held.index.records in
    read_index-same (length set.objects) (index_in l words) (index_word h.index) (λ i a. index-kept set l h words k i (omega (arith, d.fits))) ∙ read_back (length set.objects) h.index k.held.index.slots k.held.index.last

held_is : (h : Held) (x : Index) (objects : Objects) (boots root : ℕ) → x ≡ h.index → objects ≡ h.objects → boots ≡ h.boots → root ≡ h.root → record { index = x; objects = objects; boots = boots; root = root } ≡ h
held_is h x objects boots root a b c d = rw (a, b, c, d) refl

held-read : (set : TaskSet) (l : Layout) (h : Held) (words : Words) → IsLaidOut set l → KeepsIn set l h words → held_by l set words (read_index (length set.objects) (index_in l words)) ≡ h
held-read set l h words d k =
    ap (held_by l set words) (index-read set l h words d k)
    ∙ held_is h h.index (read_objects l set words h.index.slots 0 (length set.objects)) (words 2) (words l.root) refl
    (ap (read_objects l set words h.index.slots 0) (sym k.held.objects) ∙ objects-read set l words h.index.slots h.objects 0 (λ o a. let e : 0 + o ≡ o = omega arith in
    ap (λ (p : ℕ). words_from words (slot_place l set p (slice_index h.index.slots p)) (object_at set p).size) e ∙ object-read set l h words k o (omega (arith, k.held.objects))))
    k.boots k.root

-- ---- what stands there

pub magic-is : (kind : Kind) (set : TaskSet) → (layout_of kind set).magic ≡ magic_of kind
magic-is Plain set = refl
magic-is Paged set = refl
magic-is Migrated set = refl

pub word-0 : (set : TaskSet) (l : Layout) (h : Held) (words : Words) → KeepsIn set l h words → words 0 ≡ l.magic
word-0 set l h words k = k.header 0 (omega arith) (λ e. omega arith) (λ e. omega arith)

pub keeps_decodes : (format : ℕ) (kind : Kind) (set : TaskSet) (h : Held) (words : Words) → kind_named format (magic_of kind) ≡ Some kind → IsLaidOut set (layout_of kind set) → Keeps kind set h words → decode_by format set words ≡ Holds kind h
unfolding decode_by decode_kind
keeps_decodes format kind set h words named d k =
    let magic : words 0 ≡ magic_of kind = word-0 set (layout_of kind set) h words k ∙ magic-is kind set in
    let nonzero : words 0 ≢ 0 = λ z. d.magic (sym (word-0 set (layout_of kind set) h words k) ∙ z) in
    let named' : kind_named format (words 0) ≡ Some kind = ap (kind_named format) magic ∙ named in
    let none : first_fault (layout_of kind set) set words ≡ None = first_true-none (is_faulty_read (layout_of kind set) set words) 0 (reads (layout_of kind set)) (λ j a b. read-kept set (layout_of kind set) h words d k j (omega arith)) in
    ap (λ (b : Bool). cond b Blank (decode_kind set words (kind_named format (words 0)))) (ne_eqb (words 0) 0 nonzero)
    ∙ ap (decode_kind set words) named'
    ∙ ap (decided kind set words) none
    ∙ ap (Holds kind) (held-read set (layout_of kind set) h words d k)
