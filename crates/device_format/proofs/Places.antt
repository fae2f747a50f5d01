-- Sums of places.
use Rattle.std.proofs.Common.{◌≡◌, ◌≢◌, ℕ, zero, suc, ◌+◌, ◌-◌, ◌*◌, ◌<◌, ◌≤◌, List, [], ◌∷◌, length, sum_by, ap, arith, refl, ◌∙◌}
use Rattle.std.proofs.lemmas.List.Sums.{sum_by-cons}
use Rattle.std.proofs.lemmas.Nat.{mul-le}
use Rattle.set_model.specs.Sets.{ObjPart, TaskSet, object_at}
use Rattle.set_model.specs.Numbers.{first_index}
use Rattle.device_model.specs.Layouts.{Kind, Plain, Paged, Migrated, Layout, copy_place, index_reads, layout_of, need, slot_place, slots_at, slots_words, words_before}
use Rattle.device_model.specs.Words.{Words}
use Rattle.device_format.specs.Fresh.{HasObject}
use Rattle.device_model.proofs.ForCallers.{before-more, before-total, slot_place-high}

abbrev no_object : ObjPart
no_object = record { name = []; size = 0; slots = 0; first = [] }

-- a page begins behind those before it
pub page_begins : (l : Layout) (page : ℕ) → copy_place l page 0 0 ≡ l.pages_at + 2 * (page * l.page_words)
page_begins l page = omega arith

-- its copy 1 begins behind its copy 0
pub other_begins : (l : Layout) (page : ℕ) → copy_place l page 1 0 ≡ copy_place l page 0 0 + l.page_words
other_begins l page = omega arith

-- a page ends before the slots
pub page_ends : (l : Layout) (page : ℕ) → page < l.pages → copy_place l page 0 0 + 2 * l.page_words ≤ slots_at l
page_ends l page a = let r : (page + 1) * l.page_words ≤ l.pages * l.page_words = mul-le (page + 1) l.page_words l.pages l.page_words (omega arith) (omega arith) in omega (arith, r)

-- an object's slots begin behind those of the objects before it
pub object_begins : (l : Layout) (set : TaskSet) (o : ℕ) → slot_place l set o 0 ≡ slots_at l + words_before set.objects o
object_begins l set o = omega arith

-- its slot 1 begins behind its slot 0
pub slot_1_begins : (l : Layout) (set : TaskSet) (o : ℕ) → slot_place l set o 1 ≡ slot_place l set o 0 + (object_at set o).size
slot_1_begins l set o = omega arith

pub object_more : (set : TaskSet) (o : ℕ) → o < length set.objects → words_before set.objects (o + 1) ≡ words_before set.objects o + slots_words (object_at set o)
object_more set o a = before-more set.objects no_object o a

-- an object's slots end within the words that are needed
pub object_ends : (l : Layout) (set : TaskSet) (o : ℕ) → o < length set.objects → slot_place l set o 0 + slots_words (object_at set o) ≤ need l set
object_ends l set o a = omega (arith, object_more set o a, before-total set.objects (o + 1))

-- all slots but one
pub but_one : (size slots : ℕ) → size * (slots - 1) ≡ size * slots - size
but_one size zero = omega arith
but_one size (suc slots) =
    let e : suc slots - 1 ≡ slots = omega arith in
    let f : size * slots ≡ size * suc slots - size = omega arith in
    ap (λ (n : ℕ). size * n) e ∙ f

pub one_within : (size slots : ℕ) → 2 ≤ slots → size ≤ size * slots
one_within size zero a = absurd (omega arith)
one_within size (suc slots) a = omega arith

-- a page more, of those that are left
pub pages_left : (l : Layout) (page : ℕ) → page < l.pages → 2 * (page * l.page_words) + 2 * l.page_words ≤ 2 * index_reads l
pages_left l page a = let r : (page + 1) * l.page_words ≤ l.pages * l.page_words = mul-le (page + 1) l.page_words l.pages l.page_words (omega arith) (omega arith) in omega (arith, r)

-- the words behind slot 0 are 0
pub others_at : (w : Words) (l : Layout) (set : TaskSet) (o at count : ℕ) (own : Words) → at ≡ slot_place l set o 0 + (object_at set o).size → count ≡ slots_words (object_at set o) - (object_at set o).size → (object_at set o).size ≤ slots_words (object_at set o) → HasObject l set o own w → (i : ℕ) → i < count → w (at + i) ≡ 0
others_at w l set o at count own e f m h i a =
    let u : at + i ≡ slot_place l set o 0 + ((object_at set o).size + i) = omega (arith, e) in
    ap w u ∙ h.others ((object_at set o).size + i) (omega arith) (omega (arith, a, f, m))

pub objects_left : (set : TaskSet) (o : ℕ) → o < length set.objects → words_before set.objects o + slots_words (object_at set o) ≤ sum_by slots_words set.objects
objects_left set o a = omega (arith, object_more set o a, before-total set.objects (o + 1))

pub all_before : (objects : List ObjPart) → words_before objects (length objects) ≡ sum_by slots_words objects
all_before [] = refl
all_before (p ∷ objects) = omega (arith, all_before objects, sum_by-cons slots_words p objects)

-- ---- what stands before the pages

-- in format 1 the header
pub head_plain : (kind : Kind) (set : TaskSet) → kind ≢ Migrated → (layout_of kind set).root ≡ 1 → ((layout_of kind set).head_reads ≡ first_index set) × ((layout_of kind set).pages_at ≡ first_index set)
head_plain Plain set n e = (refl, refl)
head_plain Paged set n e = absurd (omega (arith, e))
head_plain Migrated set n e = absurd (n refl)

-- in format 2 the header, and the root
pub head_paged : (kind : Kind) (set : TaskSet) → kind ≢ Migrated → (layout_of kind set).root ≢ 1 → ((layout_of kind set).root ≡ first_index set) × ((layout_of kind set).pages_at ≡ (layout_of kind set).root + 1)
head_paged Plain set n e = absurd (e refl)
head_paged Paged set n e = (refl, refl)
head_paged Migrated set n e = absurd (n refl)

-- the header has seven words at least, and stands before the pages
pub head_within : (l : Layout) (set : TaskSet) → l.pages_at ≤ need l set
head_within l set = omega arith

pub seven_words : (set : TaskSet) → 7 ≤ first_index set
seven_words set = omega arith

-- a slot in format 1 ends within its words
pub old_before : (set : TaskSet) (o slot : ℕ) → o < length set.objects → slot < (object_at set o).slots → 1 ≤ (object_at set o).size → slot_place (layout_of Plain set) set o slot + (object_at set o).size ≤ need (layout_of Plain set) set
old_before set o slot a b c = omega (arith, slot_place-high (layout_of Plain set) set o slot ((object_at set o).size - 1) a b (omega (arith, c)), c)
