-- A state that is written anew.
use Rattle.std.proofs.Common.{◌≡◌, ◌≢◌, ◌⊎◌, inl, inr, ℕ, zero, suc, ◌+◌, ◌-◌, ◌*◌, ◌/◌, ◌%◌, ◌<◌, ◌≤◌, List, [], ◌∷◌, length, get_or, slice_index, arith, refl, ap, sym, ◌∙◌}
use Rattle.std.proofs.lemmas.Bool.{eq-eqb, ne_eqb, le-ltb, lt-ltb}
use Rattle.std.proofs.lemmas.List.{get_or-replicate}
use Rattle.std.proofs.lemmas.Nat.{div-add-mod', div-mul-add, mod-mul-add}
use Rattle.kernel_model.specs.Effects.{Objects, object_words}
use Rattle.set_model.specs.Sets.{ObjPart, TaskSet, object_at}
use Rattle.set_model.specs.Limits.{IsTaskSet, IsObject}
use Rattle.set_model.specs.Numbers.{first_index}
use Rattle.set_model.proofs.ForCallers.{all_at}
use Rattle.device_model.specs.Words.{Words, made, written_at, words_from}
use Rattle.device_model.specs.Layouts.{Layout, copy_place, header_word, index_place, index_reads, need, slot_place, slots_at, slots_words, words_before}
use Rattle.device_model.specs.IndexWords.{Index, index_word}
use Rattle.device_model.specs.Keeping.{IsHeld, KeepsIn}
use Rattle.device_model.specs.Places.{IsLaidOut}
use Rattle.device_model.specs.Formats.{first_slots, fresh_held, fresh_page_word, fresh_slot_word, fresh_word}
use Rattle.device_model.proofs.PlaceLaws.{copy_place-low, copy_place-high, page_of, slot_place-low, slot_place-high}
use Rattle.device_model.proofs.Writes.{length-words_from, word_from, written-in}

-- ---- words that are written in order of place

pub put_in_order : (f words : Words) (from n p : ℕ) → from ≤ p → p < from + n → made (written_at from (words_from f from n)) words p ≡ f p
put_in_order f words from n p a b =
    let e : p ≡ from + (p - from) = omega arith in
    ap (made (written_at from (words_from f from n)) words) e ∙ written-in from (words_from f from n) words (p - from) (omega (arith, length-words_from f from n)) ∙ word_from f from n (p - from) (omega arith) ∙ ap f (sym e)

-- ---- the word at each place

pub fresh-root : (l : Layout) (set : TaskSet) (x : Index) (objects : Objects) → fresh_word l set x objects l.root ≡ l.first_root
unfolding fresh_word
fresh-root l set x objects = rw (eq-eqb l.root l.root refl) refl

pub fresh-header : (l : Layout) (set : TaskSet) (x : Index) (objects : Objects) (j : ℕ) → j ≢ l.root → j < first_index set → fresh_word l set x objects j ≡ header_word l set j
unfolding fresh_word
fresh-header l set x objects j n a = rw (ne_eqb j l.root n, lt-ltb j (first_index set) a) refl

pub fresh-page : (l : Layout) (set : TaskSet) (x : Index) (objects : Objects) (p : ℕ) → IsLaidOut set l → l.pages_at ≤ p → p < slots_at l → fresh_word l set x objects p ≡ fresh_page_word l x (p - l.pages_at)
unfolding fresh_word
fresh-page l set x objects p d a b = rw (ne_eqb p l.root (λ e. let f = d.root_first in omega arith), le-ltb p (first_index set) (let f = d.header_first in omega arith), lt-ltb p (slots_at l) b) refl

pub fresh-slot : (l : Layout) (set : TaskSet) (x : Index) (objects : Objects) (p : ℕ) → IsLaidOut set l → slots_at l ≤ p → fresh_word l set x objects p ≡ fresh_slot_word set.objects objects 0 (p - slots_at l)
unfolding fresh_word
fresh-slot l set x objects p d a = rw (ne_eqb p l.root (λ e. let f = d.root_first in omega arith), le-ltb p (first_index set) (let f = d.header_first in omega arith), le-ltb p (slots_at l) a) refl

-- copy 0 of a page
pub page_word : (l : Layout) (x : Index) (page i q : ℕ) → i < l.page_words → q ≡ (2 * page) * l.page_words + i → fresh_page_word l x q ≡ index_word x (page * l.page_words + i)
page_word l x page i q a e =
    let row : q / l.page_words ≡ 2 * page = ap (λ (p : ℕ). p / l.page_words) e ∙ div-mul-add (2 * page) l.page_words i a in
    let rest : q % l.page_words ≡ i = ap (λ (p : ℕ). p % l.page_words) e ∙ mod-mul-add (2 * page) l.page_words i a in
    let even : (2 * page) % 2 ≡ 0 = omega arith in
    let half : (2 * page) / 2 ≡ page = omega arith in
    rw (row, rest, even, half) refl

fresh-index : (l : Layout) (set : TaskSet) (x : Index) (objects : Objects) (i : ℕ) → IsLaidOut set l → i < index_reads l → fresh_word l set x objects (index_place l l.first_root i) ≡ index_word x i
fresh-index l set x objects i d a =
    let at = page_of l i a (let z = d.page_words in omega arith) in
    let first : index_place l l.first_root i ≡ copy_place l (i / l.page_words) 0 (i % l.page_words) = ap (λ (copy : ℕ). copy_place l (i / l.page_words) copy (i % l.page_words)) (d.first_copy (i / l.page_words) at.0) in
    ap (fresh_word l set x objects) first
    ∙ fresh-page l set x objects (copy_place l (i / l.page_words) 0 (i % l.page_words)) d (copy_place-low l (i / l.page_words) 0 (i % l.page_words)) (copy_place-high l (i / l.page_words) 0 (i % l.page_words) at.0 (omega arith) at.1)
    ∙ page_word l x (i / l.page_words) (i % l.page_words) (copy_place l (i / l.page_words) 0 (i % l.page_words) - l.pages_at) at.1 (omega arith)
    ∙ ap (index_word x) (div-add-mod' i l.page_words)

-- slot 0 of an object
pub slot_word : (parts : List ObjPart) (none : ObjPart) (objects : Objects) (k o i : ℕ) → o < length parts → i < slots_words (get_or parts o none) → fresh_slot_word parts objects k (words_before parts o + i) ≡ slice_index (object_words objects (k + o)) i
slot_word [] none objects k o i a b = absurd (omega arith)
slot_word (p ∷ parts) none objects k zero i a b =
    let e : 0 + i ≡ i = omega arith in let f : k ≡ k + 0 = omega arith in
    ap (fresh_slot_word (p ∷ parts) objects k) e ∙ rw (lt-ltb i (slots_words p) b) (ap (λ (o : ℕ). slice_index (object_words objects o) i) f)
slot_word (p ∷ parts) none objects k (suc o) i a b =
    let e : slots_words p + words_before parts o + i - slots_words p ≡ words_before parts o + i = omega arith in
    let f : k + 1 + o ≡ k + suc o = omega arith in
    rw (le-ltb (slots_words p + words_before parts o + i) (slots_words p) (omega arith))
    (ap (fresh_slot_word parts objects (k + 1)) e ∙ slot_word parts none objects (k + 1) o i (omega arith) b ∙ ap (λ (o : ℕ). slice_index (object_words objects o) i) f)

pub two_slots : (set : TaskSet) (o : ℕ) → IsTaskSet set → o < length set.objects → 2 ≤ (object_at set o).slots
two_slots set o h a = (all_at IsObject set.objects _ o h.each_object a).slots.0

abbrev no_object : ObjPart
no_object = record { name = []; size = 0; slots = 0; first = [] }

pub size_fits : (size slots i : ℕ) → 2 ≤ slots → i < size → i < size * slots
size_fits size zero i a b = absurd (omega arith)
size_fits size (suc slots) i a b = omega arith

fresh-object : (l : Layout) (set : TaskSet) (x : Index) (objects : Objects) (o i : ℕ) → IsLaidOut set l → IsTaskSet set → o < length set.objects → i < (object_at set o).size → fresh_word l set x objects (slot_place l set o 0 + i) ≡ slice_index (object_words objects o) i
fresh-object l set x objects o i d t a b =
    let e : slot_place l set o 0 + i - slots_at l ≡ words_before set.objects o + i = omega arith in
    let f : 0 + o ≡ o = omega arith in
    fresh-slot l set x objects (slot_place l set o 0 + i) d (slot_place-low l set o 0 i) ∙ ap (fresh_slot_word set.objects objects 0) e
    ∙ slot_word set.objects no_object objects 0 o i a (size_fits (object_at set o).size (object_at set o).slots i (two_slots set o t a) b)
    ∙ ap (λ (o : ℕ). slice_index (object_words objects o) i) f

-- ---- they keep the state

pub first_slot : (set : TaskSet) (o : ℕ) → o < length set.objects → slice_index (first_slots set) o ≡ 0
first_slot set o a = get_or-replicate (length set.objects) o 0 0 a

pub fresh_keeps : (set : TaskSet) (l : Layout) (x : Index) (objects : Objects) (boots : ℕ) (words : Words) → IsLaidOut set l → IsTaskSet set → IsHeld set l (fresh_held l x objects boots) → x.slots ≡ first_slots set
    → ((j : ℕ) → j < first_index set → j ≢ 1 → j ≢ 2 → words j ≡ header_word l set j) → words 2 ≡ boots
    → ((p : ℕ) → (p ≡ l.root) ⊎ (l.pages_at ≤ p) → p < need l set → words p ≡ fresh_word l set x objects p) → KeepsIn set l (fresh_held l x objects boots) words
fresh_keeps set l x objects boots words d t k zeros header at_boots fresh = record {
  held = k;
  header = header;
  boots = at_boots;
  root = fresh l.root (inl refl) (let a = d.root_first in omega arith) ∙ fresh-root l set x objects;
  index = λ i a. fresh (index_place l l.first_root i) (inr (place i a).0) (let b = (place i a).1 in omega arith) ∙ fresh-index l set x objects i d a;
  objects = λ o i a b.
      let e : slice_index x.slots o ≡ 0 = ap (λ (s : List ℕ). slice_index s o) zeros ∙ first_slot set o a in
      ap (λ (slot : ℕ). words (slot_place l set o slot + i)) e
      ∙ fresh (slot_place l set o 0 + i) (inr (let low = slot_place-low l set o 0 i in omega arith)) (slot_place-high l set o 0 i a (let two = two_slots set o t a in omega arith) b)
      ∙ fresh-object l set x objects o i d t a b;
}
  where
    place : (i : ℕ) → i < index_reads l → (l.pages_at ≤ index_place l l.first_root i) × (index_place l l.first_root i < slots_at l)
    place i a =
        let at = page_of l i a (let z = d.page_words in omega arith) in
        let c = d.first_copy (i / l.page_words) at.0 in
        (copy_place-low l (i / l.page_words) (l.copy l.first_root (i / l.page_words)) (i % l.page_words), copy_place-high l (i / l.page_words) (l.copy l.first_root (i / l.page_words)) (i % l.page_words) at.0 (omega arith) at.1)
