-- Where the words of a set stand on a device: one description by shape, for each kind of device. This project's own.
use Rattle.std.specs.Prelude.{◌≡◌, ℕ, zero, suc, ◌+◌, ◌-◌, ◌*◌, ◌/◌, ◌%◌, ◌^◌, ◌==◌, nat_lt, nat_le, Bool, ◌||◌, List, [], ◌∷◌, ◌++◌, length, map, slice_index, sum_by, Option, Some, None, if◌then◌else◌}
use Rattle.std.specs.List.{flat_map}
use Rattle.set_model.specs.Sets.{ObjPart, ProgPart, TaskSet, object_at}
use Rattle.set_model.specs.Numbers.{index_words, first_index, words_needed}

-- the kinds of device
pub data Kind : Type 0 where
  Plain : Kind  -- format 1: the index as one page
  Paged : Kind  -- format 2: the index in pages, with the root behind the code
  Migrated : Kind  -- format 2 behind all words of format 1

-- The index stands in pages, each in two copies, copy 0 first. The root tells which copy of each page is current.
pub record Layout : Type 0 where
  pub magic : ℕ  -- word 0
  pub root : ℕ  -- the place of the root
  pub root_read : ℕ  -- as which word it is read, from 0
  pub head_reads : ℕ  -- how many words are read before the pages
  pub pages : ℕ
  pub page_words : ℕ
  pub pages_at : ℕ  -- the place of the first page
  pub is_root : ℕ → Bool
  pub copy : ℕ → ℕ → ℕ  -- the current copy that a root names, of a page
  pub first_root : ℕ  -- names copy 0 of each page
  pub flipped : (ℕ → Bool) → ℕ → ℕ  -- a root that names the other copy of some pages

-- the words 0 of the kinds: NVK1, NVK2 and NVKM as little-endian bytes
abbrev pub magic_of : Kind → ℕ
magic_of Plain = 0x314B564E
magic_of Paged = 0x324B564E
magic_of Migrated = 0x4D4B564E

-- the kind that word 0 names, on a device of a format: a set of format 2 takes devices of format 1, to migrate them
abbrev pub kind_named : (format word : ℕ) → Option Kind
kind_named format word =
    if word == magic_of Plain then Some Plain
    else if format == 1 then None
    else if word == magic_of Paged then Some Paged
    else if word == magic_of Migrated then Some Migrated
    else None

-- bit k of a number
abbrev pub bit : ℕ → ℕ → ℕ
bit number k = number / 2 ^ k % 2

-- a number with some of its first n bits turned: bit k of it is numbered from + k
abbrev pub turned_bits : (ℕ → Bool) → ℕ → ℕ → ℕ → ℕ
turned_bits turns from zero number = number
turned_bits turns from (suc n) number =
    (if turns from then 1 - number % 2 else number % 2)
    + 2 * turned_bits turns (from + 1) n (number / 2)

-- a device of a format may be of a kind
abbrev pub IsKindOf : (format : ℕ) → Kind → Type 0
IsKindOf format kind = kind_named format (magic_of kind) ≡ Some kind

-- pages of 32 words where 31 of them suffice
abbrev pub words_of_page : TaskSet → ℕ
words_of_page set = if nat_le (index_words set) 992 then 32 else 128

-- as many pages as the index fills
abbrev pub count_pages : TaskSet → ℕ
count_pages set = (index_words set + (words_of_page set - 1)) / words_of_page set

-- format 1: word 1 is the root, 1 or 2, and names the copy of the one page
abbrev pub plain_layout : TaskSet → Layout
plain_layout set = record {
  magic = magic_of Plain;
  root = 1;
  root_read = 1;
  head_reads = first_index set;
  pages = 1;
  page_words = index_words set;
  pages_at = first_index set;
  is_root = λ word. (word == 1) || (word == 2);
  copy = λ root page. root - 1;
  first_root = 1;
  flipped = λ turns root. if turns 0 then 3 - root else root;
}

-- format 2, its root at a place: bit k of the root names the copy of page k, bit 31 is 1, the bits between are 0
abbrev pub paged_layout : (magic root : ℕ) → TaskSet → Layout
paged_layout magic root set = record {
  magic = magic;
  root = root;
  root_read = first_index set;
  head_reads = first_index set + 1;
  pages = count_pages set;
  page_words = words_of_page set;
  pages_at = root + 1;
  is_root = λ word. word / 2 ^ count_pages set == 2 ^ (31 - count_pages set);
  copy = bit;
  first_root = 2 ^ 31;
  flipped = λ turns root. turned_bits turns 0 (count_pages set) root;
}

-- the layout of each kind
abbrev pub layout_of : Kind → TaskSet → Layout
layout_of Plain set = plain_layout set
layout_of Paged set = paged_layout (magic_of Paged) (first_index set) set
layout_of Migrated set = paged_layout (magic_of Migrated) (words_needed set) set

-- how many index words the pages hold, the padding too
abbrev pub index_reads : Layout → ℕ
index_reads l = l.pages * l.page_words

-- the place of word i of a page's copy
abbrev pub copy_place : Layout → (page copy i : ℕ) → ℕ
copy_place l page copy i = l.pages_at + (2 * page + copy) * l.page_words + i

-- the place of index word i, by the root
abbrev pub index_place : Layout → (root i : ℕ) → ℕ
index_place l root i =
    copy_place l (i / l.page_words) (l.copy root (i / l.page_words)) (i % l.page_words)

-- where the slots begin: behind both copies of all pages
abbrev pub slots_at : Layout → ℕ
slots_at l = l.pages_at + 2 * index_reads l

-- how many words the slots of an object have
abbrev pub slots_words : ObjPart → ℕ
slots_words o = o.size * o.slots

-- how many words the slots of the first objects have
abbrev pub words_before : List ObjPart → ℕ → ℕ
words_before [] o = 0
words_before (p ∷ objects) zero = 0
words_before (p ∷ objects) (suc o) = slots_words p + words_before objects o

-- the place of a slot's first word
abbrev pub slot_place : Layout → TaskSet → (object slot : ℕ) → ℕ
slot_place l set o slot = slots_at l + words_before set.objects o + (object_at set o).size * slot

-- how many words a device must have
abbrev pub need : Layout → TaskSet → ℕ
need l set = slots_at l + sum_by slots_words set.objects

-- an object in the directory
abbrev pub object_word : ObjPart → ℕ
object_word o = o.size + 256 * o.slots

-- a program in the directory
abbrev pub program_words : ProgPart → List ℕ
program_words p = p.fuel ∷ length p.code ∷ []

-- the words of the header, the directory and the code, with 0 for the words 1 and 2
abbrev pub header : ℕ → TaskSet → List ℕ
header magic set =
    magic ∷ 0 ∷ 0 ∷ length set.objects ∷ set.records ∷ length set.programs ∷ set.memory
    ∷ (map object_word set.objects
    ++ (flat_map program_words set.programs ++ flat_map (λ p. p.code) set.programs))

-- word j of these
abbrev pub header_word : Layout → TaskSet → ℕ → ℕ
header_word l set j = slice_index (header l.magic set) j

-- how many words of code the first programs have
abbrev pub code_before : List ProgPart → ℕ → ℕ
code_before [] p = 0
code_before (q ∷ programs) zero = 0
code_before (q ∷ programs) (suc p) = length q.code + code_before programs p

-- the place of a program's first word
abbrev pub code_place : TaskSet → (program : ℕ) → ℕ
code_place set p = 7 + length set.objects + 2 * length set.programs + code_before set.programs p

-- how many words are read, the pages after all others
abbrev pub reads : Layout → ℕ
reads l = l.head_reads + index_reads l

-- the place of the word that is read as number j
abbrev pub read_place : Layout → (root j : ℕ) → ℕ
read_place l root j =
    if nat_lt j l.head_reads then (if j == l.root_read then l.root else j)
    else index_place l root (j - l.head_reads)

-- how many turns a boot takes: one for each word that is read, and one that writes the boots
abbrev pub boot_turns_of : Layout → ℕ
boot_turns_of l = reads l + 1
