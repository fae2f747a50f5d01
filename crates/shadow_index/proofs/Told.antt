-- What a layout tells, by its parts.
use Rattle.std.proofs.Common.{◌≡◌, ◌≢◌, ℕ, ◌+◌, ◌*◌, ◌%◌, ◌<◌, ◌≤◌, sum_by, arith, refl, ap, ap₂, ◌∙◌}
use Rattle.set_model.specs.Sets.{TaskSet, object_at}
use Rattle.std.proofs.lemmas.Bool.{eq-eqb, ne_eqb, lt-ltb}
use Rattle.std.proofs.lemmas.Nat.{mul-le}
use Rattle.set_model.specs.Numbers.{first_index}
use Rattle.device_model.specs.Formats.{format_word, fresh_word}
use Rattle.device_model.specs.Layouts.{Kind, Plain, Paged, Migrated, Layout, copy_place, header_word, index_reads, magic_of, layout_of, need, slot_place, slots_at, slots_words, words_before}
use Rattle.shadow_index.specs.declared.shape.Shape.{Shape}
use Rattle.shadow_index.specs.Views.{heads}
use Rattle.shadow_index.specs.Shapes.{IsShapeOf}

pub heads_of : (kind : Kind) (set : TaskSet) → heads kind (first_index set) ≡ (layout_of kind set).head_reads
heads_of Plain set = refl
heads_of Paged set = refl
heads_of Migrated set = refl

pub reads_are : (l : Layout) (s : Shape) (pages : ℕ) → IsShapeOf l s → pages ≡ s.pages → pages * s.page_words ≡ index_reads l
reads_are l s pages h e = ap₂ (λ (a b : ℕ). a * b) (e ∙ h.pages) h.page_words

pub slots_are_at : (l : Layout) (s : Shape) (pages : ℕ) → IsShapeOf l s → pages ≡ s.pages → s.pages_at + 2 * (pages * s.page_words) ≡ slots_at l
slots_are_at l s pages h e = ap₂ (λ (a b : ℕ). a + 2 * b) h.pages_at (reads_are l s pages h e)

pub need_is : (l : Layout) (set : TaskSet) (s : Shape) (pages words : ℕ) → IsShapeOf l s → pages ≡ s.pages → words ≡ sum_by slots_words set.objects → s.pages_at + 2 * (pages * s.page_words) + words ≡ need l set
need_is l set s pages words h e f = ap₂ (λ (a b : ℕ). a + b) (slots_are_at l s pages h e) f

pub copy_is_at : (l : Layout) (s : Shape) (page copy : ℕ) → IsShapeOf l s → s.pages_at + (2 * page + copy) * s.page_words ≡ copy_place l page copy 0
copy_is_at l s page copy h = ap₂ (λ (a b : ℕ). a + (2 * page + copy) * b) h.pages_at h.page_words ∙ omega arith

pub slot_is_at : (l : Layout) (set : TaskSet) (at o slot : ℕ) → at ≡ slots_at l → at + words_before set.objects o + (object_at set o).size * slot ≡ slot_place l set o slot
slot_is_at l set at o slot e = ap (λ (a : ℕ). a + words_before set.objects o + (object_at set o).size * slot) e

-- the place of a slot is a word: no sum of these wraps
pub in_words : (x size slot f s k : ℕ) → f ≡ x + size * 0 → s ≡ size → k ≡ slot → x + size * 0 ≤ 161978 → size ≤ 64 → slot < 8 → (f + s * k % 4294967296) % 4294967296 ≡ x + size * slot
in_words x size slot f s k e g h small thin few =
    let most = mul-le size slot 64 8 thin (omega (arith, few)) in
    let same : s * k ≡ size * slot = ap₂ (λ (a b : ℕ). a * b) g h in
    omega (arith, e, most, same, small)

pub magic_is : (kind : Kind) (set : TaskSet) → magic_of kind ≡ (layout_of kind set).magic
magic_is Plain set = refl
magic_is Paged set = refl
magic_is Migrated set = refl

-- what a format leaves where the root is, and at the other places of the header
pub format_root : (l : Layout) (set : TaskSet) (at : ℕ) → at ≡ l.root → format_word l set at ≡ l.first_root
unfolding fresh_word
format_root l set at e = rw (eq-eqb at l.root e) refl

pub format_header : (l : Layout) (set : TaskSet) (at : ℕ) → at ≢ l.root → at < first_index set → format_word l set at ≡ header_word l set at
unfolding fresh_word
format_header l set at n i = rw (ne_eqb at l.root n, lt-ltb at (first_index set) i) refl
