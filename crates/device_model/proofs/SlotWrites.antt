-- What one write of a commit does to the words of slots.
use Rattle.std.proofs.Common.{◌≡◌, ℕ, zero, suc, ◌+◌, ◌-◌, ◌<◌, ◌≤◌, Bool, true, false, eqb, List, [], ◌∷◌, ◌++◌, cond, get_or, set, length, Some, refl, sym, ap, ap₂, ◌∙◌, subst, arith, slice_index}
use Rattle.std.proofs.Math.ListN.{get_or-append}
use Rattle.std.proofs.lemmas.List.{append_assoc, get_or-append_right, length-append}
use Rattle.std.proofs.lemmas.Bool.{eqb-true}
use Rattle.kernel_model.specs.Effects.{Write, written}
use Rattle.set_model.specs.Sets.{TaskSet, object_at}
use Rattle.device_model.specs.Words.{Change, Words, with_word, words_from, written_at}
use Rattle.device_model.specs.Layouts.{Layout, slot_place, slots_at}
use Rattle.device_model.specs.Decoding.{Held}
use Rattle.device_model.specs.Commits.{Commit, commit_writes, is_changed, next_root, object_changes, page_changes, words_before_object, words_written}
use Rattle.device_model.specs.Places.{IsLaidOut}
use Rattle.device_model.proofs.CommitBody.{every_page}
use Rattle.device_model.proofs.PlaceLaws.{copy_place-high, slot_place-apart, slot_place-low}
use Rattle.device_model.proofs.Writes.{Every, Every-append, length-written, with_word-other, with_word-same, words_from-same}

-- ---- which word is written next

-- word m of some words that are written
pub get-written : (p : ℕ) (words : List ℕ) (m : ℕ) (d : Change) → m < length words → get_or (written_at p words) m d ≡ (p + m, get_or words m 0)
get-written p [] m d l = absurd (omega (arith, l))
get-written p (word ∷ words) zero d l = let z : p ≡ p + 0 = omega arith in ap (λ (n : ℕ). let c : Change = (n, word) in c) z
get-written p (word ∷ words) (suc m) d l = get-written (p + 1) words m d (omega (arith, l)) ∙ (let z : p + 1 + m ≡ p + suc m = omega arith in ap (λ (n : ℕ). let c : Change = (n, get_or words m 0) in c) z)

-- all words of objects
pub length-changes : (l : Layout) (set : TaskSet) (slots : List ℕ) (ws : List Write) → length (object_changes l set slots ws) ≡ words_written ws
length-changes l set slots [] = refl
length-changes l set slots (w ∷ ws) =
    let p = slot_place l set w.object (slice_index slots w.object) in
    omega (arith, length-append (written_at p w.words) (object_changes l set slots ws), length-written p w.words, length-changes l set slots ws)

-- a word of an object
pub object-change : (l : Layout) (set : TaskSet) (slots : List ℕ) (ws : List Write) (o : ℕ) (words : List ℕ) (i : ℕ) (d : Change) → written ws o ≡ Some words → i < length words
    → (words_before_object o ws + i < words_written ws) × (get_or (object_changes l set slots ws) (words_before_object o ws + i) d ≡ (slot_place l set o (slice_index slots o) + i, get_or words i 0))
object-change l set slots [] o words i d e m = absurd (cc e)
object-change l set slots (w ∷ ws) o words i d e m = go (object-change l set slots ws o words i d) (eqb w.object o) refl e
  where
    a : List Change
    a = written_at (slot_place l set w.object (slice_index slots w.object)) w.words

    b : List Change
    b = object_changes l set slots ws

    whole : length a ≡ length w.words
    whole = length-written (slot_place l set w.object (slice_index slots w.object)) w.words

    Says : ℕ → Type 0
    Says k = (k + i < length w.words + words_written ws) × (get_or (a ++ b) (k + i) d ≡ (slot_place l set o (slice_index slots o) + i, get_or words i 0))

    go : (written ws o ≡ Some words → i < length words → (words_before_object o ws + i < words_written ws) × (get_or b (words_before_object o ws + i) d ≡ (slot_place l set o (slice_index slots o) + i, get_or words i 0)))
        → (c : Bool) → eqb w.object o ≡ c → cond c (Some w.words) (written ws o) ≡ Some words → Says (cond c 0 (length w.words + words_before_object o ws))
    go later true f g =
        let same : w.words ≡ words = cc g in
        let here : w.object ≡ o = eqb-true w.object o f in
        let n : i < length w.words = subst (λ (k : List ℕ). i < length k) (sym same) m in
        let z : 0 + i ≡ i = omega arith in (
          omega (arith, n),
          ap (λ (k : ℕ). get_or (a ++ b) k d) z ∙ get_or-append a b d i (omega (arith, whole, n))
              ∙ get-written (slot_place l set w.object (slice_index slots w.object)) w.words i d n
              ∙ ap₂ (λ (p : ℕ) (k : List ℕ). let c : Change = (slot_place l set p (slice_index slots p) + i, get_or k i 0) in c) here same,
        )
    go later false f g =
        let rest = later g m in
        let z : length w.words + words_before_object o ws + i - length w.words ≡ words_before_object o ws + i = omega arith in (
          omega (arith, rest.0),
          get_or-append_right a b (length w.words) (length w.words + words_before_object o ws + i) d whole (omega arith)
              ∙ ap (λ (k : ℕ). get_or b k d) z ∙ rest.1,
        )

every-get : (P : Change → Type 0) (log : List Change) (k : ℕ) (d : Change) → Every P log → P d → P (get_or log k d)
every-get P [] k d h p = p
every-get P (w ∷ log) zero d h p = h.0
every-get P (w ∷ log) (suc k) d h p = every-get P log k d h.1 p

-- behind the words of objects nothing is written to a slot
pub late-place : (set : TaskSet) (l : Layout) (h : Held) (c : Commit) → IsLaidOut set l → (m : ℕ) → length (object_changes l set c.after.slots c.writes) ≤ m → (get_or (commit_writes l set h c) m (0, 0)).0 < slots_at l
unfolding commit_writes
late-place set l h c d m n = subst (λ (w : Change). w.0 < slots_at l) (sym (ap (λ (log : List Change). get_or log m (0, 0)) (append_assoc objects pages root) ∙ get_or-append_right objects (pages ++ root) (length objects) m (0, 0) refl n))
    (every-get (λ w. w.0 < slots_at l) (pages ++ root) (m - length objects) (0, 0) (Every-append (λ w. w.0 < slots_at l) pages root in_pages (at_root, tt)) (omega (arith, at_root)))
  where
    objects : List Change
    objects = object_changes l set c.after.slots c.writes

    pages : List Change
    pages = page_changes l h.root c.after (is_changed l set h.index c) 0 l.pages

    root : List Change
    root = (l.root, next_root l set h c) ∷ []

    at_root : l.root < slots_at l
    at_root = let r = d.root_first in omega (arith, r)

    in_pages : Every (λ w. w.0 < slots_at l) pages
    in_pages = every_page (λ p. p < slots_at l) l h.root c.after (is_changed l set h.index c) 0 l.pages (λ k i a b e. copy_place-high l k (1 - l.copy h.root k) i (omega (arith, b)) (omega arith) e)

-- one of the first writes
pub early-write : (set : TaskSet) (l : Layout) (h : Held) (c : Commit) (m : ℕ) → m < length (object_changes l set c.after.slots c.writes) → get_or (commit_writes l set h c) m (0, 0) ≡ get_or (object_changes l set c.after.slots c.writes) m (0, 0)
unfolding commit_writes
early-write set l h c m n = ap (λ (log : List Change). get_or log m (0, 0)) (append_assoc objects pages root) ∙ get_or-append objects (pages ++ root) (0, 0) m n
  where
    objects : List Change
    objects = object_changes l set c.after.slots c.writes

    pages : List Change
    pages = page_changes l h.root c.after (is_changed l set h.index c) 0 l.pages

    root : List Change
    root = (l.root, next_root l set h c) ∷ []

-- ---- what it does to the words of a slot

-- one word of them
pub words-set : (words : Words) (p n j v : ℕ) → j < n → words_from (with_word (p + j, v) words) p n ≡ set (words_from words p n) j v
words-set words p zero j v l = absurd (omega (arith, l))
words-set words p (suc n) zero v l =
    ap₂ (λ (a : ℕ) (b : List ℕ). a ∷ b) (with_word-same (p + 0, v) words p (let z : p + 0 ≡ p = omega arith in z)) (words_from-same (with_word (p + 0, v) words) words (p + 1) (p + 1) n (λ i a. with_word-other (p + 0, v) words (p + 1 + i) (λ e. absurd (omega (arith, e)))))
words-set words p (suc n) (suc j) v l =
    ap₂ (λ (a : ℕ) (b : List ℕ). a ∷ b) (with_word-other (p + suc j, v) words p (λ e. absurd (omega (arith, e))))
    ((let z : p + suc j ≡ p + 1 + j = omega arith in ap (λ (q : ℕ). words_from (with_word (q, v) words) (p + 1) n) z) ∙ words-set words (p + 1) n j v (omega (arith, l)))

-- a word before all slots
pub words-out : (set : TaskSet) (l : Layout) (words : Words) (w : Change) (o k : ℕ) → w.0 < slots_at l
    → words_from (with_word w words) (slot_place l set o k) (object_at set o).size ≡ words_from words (slot_place l set o k) (object_at set o).size
words-out set l words w o k n = words_from-same (with_word w words) words (slot_place l set o k) (slot_place l set o k) (object_at set o).size
    (λ i a. with_word-other w words (slot_place l set o k + i) (λ e. absurd (let low = slot_place-low l set o k i in omega (arith, e, low, n))))

-- a word of another slot
pub words-other : (set : TaskSet) (l : Layout) (words : Words) (p j i v o k : ℕ) → p < length set.objects → j < (object_at set p).slots → i < (object_at set p).size
    → o < length set.objects → k < (object_at set o).slots → ((o ≡ p) → (k ≡ j) → ⊥)
    → words_from (with_word (slot_place l set p j + i, v) words) (slot_place l set o k) (object_at set o).size ≡ words_from words (slot_place l set o k) (object_at set o).size
words-other set l words p j i v o k a b c m n ne = words_from-same (with_word (slot_place l set p j + i, v) words) words (slot_place l set o k) (slot_place l set o k) (object_at set o).size
    (λ q r. with_word-other (slot_place l set p j + i, v) words (slot_place l set o k + q) (λ e.
    let apart = slot_place-apart l set p o j k i q a m b n c r e in ne (sym apart.0) (sym apart.1)))
