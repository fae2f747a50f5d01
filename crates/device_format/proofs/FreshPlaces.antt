-- Where the words of a state that is written anew stand.
use Rattle.std.proofs.Common.{◌≡◌, ℕ, zero, suc, ◌+◌, ◌-◌, ◌*◌, ◌/◌, ◌%◌, ◌<◌, ◌≤◌, List, [], ◌∷◌, length, get_or, map, slice_index, arith, refl, ap, ◌∙◌}
use Rattle.std.proofs.lemmas.List.{get_or_past}
use Rattle.std.proofs.lemmas.Nat.{div-mul-add}
use Rattle.kernel_model.specs.Effects.{Objects, object_words}
use Rattle.set_model.specs.Sets.{ObjPart, TaskSet, object_at}
use Rattle.set_model.specs.Limits.{IsTaskSet}
use Rattle.set_model.specs.Formatted.{formatted}
use Rattle.device_model.specs.Words.{Words}
use Rattle.device_model.specs.Layouts.{Layout, copy_place, slot_place, slots_at, slots_words, words_before}
use Rattle.device_model.specs.IndexWords.{Index}
use Rattle.device_model.specs.Places.{IsLaidOut}
use Rattle.device_model.specs.Formats.{format_word, formatted_index, fresh_page_word, fresh_slot_word, fresh_word}
use Rattle.device_model.proofs.ForCallers.{fresh-page, fresh-slot, page_word, size_fits, slot_word, two_slots}
use Rattle.set_model.proofs.FormattedFacts.{formatted_is_base}
use Rattle.device_model.proofs.PlaceLaws.{copy_place-high}
use Rattle.device_format.specs.Fresh.{HasObject, HasObjects, HasPages}

-- ---- pages

copy_at : (l : Layout) (page copy i : ℕ) → copy_place l page copy 0 + i ≡ copy_place l page copy i
copy_at l page copy i = omega arith

-- copy 1 of a page
other_word : (l : Layout) (x : Index) (page i q : ℕ) → i < l.page_words → q ≡ (2 * page + 1) * l.page_words + i → fresh_page_word l x q ≡ 0
other_word l x page i q a e =
    let row : q / l.page_words ≡ 2 * page + 1 = ap (λ (p : ℕ). p / l.page_words) e ∙ div-mul-add (2 * page + 1) l.page_words i a in
    let odd : (2 * page + 1) % 2 ≡ 1 = omega arith in
    rw (row, odd) refl

pub fresh_pages : (l : Layout) (set : TaskSet) (x : Index) (objects : Objects) → IsLaidOut set l → HasPages l x (fresh_word l set x objects)
fresh_pages l set x objects d page a = record {
  current = λ i b.
      ap (fresh_word l set x objects) (copy_at l page 0 i)
      ∙ fresh-page l set x objects (copy_place l page 0 i) d (omega arith) (copy_place-high l page 0 i a (omega arith) b)
      ∙ page_word l x page i (copy_place l page 0 i - l.pages_at) b (omega arith);
  other = λ i b.
      ap (fresh_word l set x objects) (copy_at l page 1 i)
      ∙ fresh-page l set x objects (copy_place l page 1 i) d (omega arith) (copy_place-high l page 1 i a (omega arith) b)
      ∙ other_word l x page i (copy_place l page 1 i - l.pages_at) b (omega arith);
}

-- ---- slots

abbrev no_object : ObjPart
no_object = record { name = []; size = 0; slots = 0; first = [] }

-- word i of all slots of an object
object_word : (l : Layout) (set : TaskSet) (x : Index) (objects : Objects) (o i : ℕ) → IsLaidOut set l → o < length set.objects → i < slots_words (object_at set o) → fresh_word l set x objects (slot_place l set o 0 + i) ≡ slice_index (object_words objects o) i
object_word l set x objects o i d a b =
    let e : slot_place l set o 0 + i - slots_at l ≡ words_before set.objects o + i = omega arith in
    let f : 0 + o ≡ o = omega arith in
    fresh-slot l set x objects (slot_place l set o 0 + i) d (omega arith) ∙ ap (fresh_slot_word set.objects objects 0) e
    ∙ slot_word set.objects no_object objects 0 o i a b
    ∙ ap (λ (o : ℕ). slice_index (object_words objects o) i) f

pub fresh_objects : (l : Layout) (set : TaskSet) (x : Index) (objects : Objects) → IsLaidOut set l → ((o : ℕ) → o < length set.objects → 2 ≤ (object_at set o).slots) → ((o : ℕ) → o < length set.objects → length (object_words objects o) ≡ (object_at set o).size)
    → HasObjects l set (λ o. slice_index (object_words objects o)) (fresh_word l set x objects)
fresh_objects l set x objects d two long o a = record {
  current = λ i b. object_word l set x objects o i d a (size_fits (object_at set o).size (object_at set o).slots i (two o a) b);
  others = λ i b c. object_word l set x objects o i d a c ∙ get_or_past (object_words objects o) i 0 (omega (arith, long o a, b));
}

-- the same by other names of an object's words
pub object_again : (l : Layout) (set : TaskSet) (o : ℕ) (own new w : Words) → ((i : ℕ) → i < (object_at set o).size → own i ≡ new i) → HasObject l set o own w → HasObject l set o new w
object_again l set o own new w e h = record { current = λ i a. h.current i a ∙ e i a; others = h.others }

-- ---- a first state

first_words : (parts : List ObjPart) (none : ObjPart) (o : ℕ) → o < length parts → object_words (map (λ p. p.first) parts) o ≡ (get_or parts o none).first
first_words [] none o l = absurd (omega arith)
first_words (p ∷ parts) none zero l = refl
first_words (p ∷ parts) none (suc o) l = first_words parts none o (omega arith)

pub first_objects : (l : Layout) (set : TaskSet) → IsTaskSet set → IsLaidOut set l → HasObjects l set (λ o. slice_index (object_at set o).first) (format_word l set)
first_objects l set t d o a = object_again l set o (slice_index (object_words (formatted set).objects o)) (slice_index (object_at set o).first) (format_word l set) (λ i b. ap (λ (xs : List ℕ). slice_index xs i) (first_words set.objects no_object o a))
    (fresh_objects l set (formatted_index set) (formatted set).objects d (λ o a. two_slots set o t a) (formatted_is_base set t).words o a)
