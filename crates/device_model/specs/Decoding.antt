-- What the words of a device stand for. Only this says what is read where. This project's own.
use Rattle.std.specs.Prelude.{ℕ, zero, suc, ◌+◌, ◌-◌, ◌==◌, nat_lt, Bool, false, not, ◌||◌, List, [], ◌∷◌, slice_index, length, Option, Some, None, if◌then◌else◌}
use Rattle.kernel_model.specs.Effects.{Objects}
use Rattle.kernel_model.specs.Durable.{Durable}
use Rattle.set_model.specs.Sets.{TaskSet, object_at}
use Rattle.device_model.specs.Words.{Words, words_from}
use Rattle.device_model.specs.Layouts.{Kind, Layout, kind_named, layout_of, header_word, index_place, read_place, reads, slot_place}
use Rattle.device_model.specs.IndexWords.{Index, base_of, is_faulty, read_index}

-- a state as a device keeps it
pub record Held : Type 0 where
  pub index : Index  -- its numbers and open tasks, and the slot of each object
  pub objects : Objects  -- the words in these slots
  pub boots : ℕ
  pub root : ℕ

-- what stands on a device
pub data Stored : Type 0 where
  Blank : Stored
  Damaged : (place : ℕ) → Stored  -- the place of the first faulty word
  Holds : Kind → Held → Stored

-- index word i, where the root says that it is
abbrev pub index_in : Layout → Words → Words
index_in l words i = words (index_place l (words l.root) i)

-- whether a word of the header, or the root, is faulty: the words 1 and 2 are not looked at, unless word 1 is the root
abbrev pub is_faulty_head : Layout → TaskSet → ℕ → ℕ → Bool
is_faulty_head l set j word =
    if j == l.root_read then not (l.is_root word)
    else if (j == 1) || (j == 2) then false
    else not (word == header_word l set j)

-- whether the word that is read as number j is faulty
abbrev pub is_faulty_read : Layout → TaskSet → Words → ℕ → Bool
is_faulty_read l set words j =
    if nat_lt j l.head_reads then is_faulty_head l set j (words (read_place l (words l.root) j))
    else is_faulty set (index_in l words) (j - l.head_reads) (index_in l words (j - l.head_reads))

-- the first number from which on, in n numbers, a test holds
abbrev pub first_true : (ℕ → Bool) → ℕ → ℕ → Option ℕ
first_true test from zero = None
first_true test from (suc n) = if test from then Some from else first_true test (from + 1) n

-- the first faulty word that is read
abbrev pub first_fault : Layout → TaskSet → Words → Option ℕ
first_fault l set words = first_true (is_faulty_read l set words) 0 (reads l)

-- the words of the objects from number o on, n of them, in the slots that are named
abbrev pub read_objects : Layout → TaskSet → Words → List ℕ → ℕ → ℕ → Objects
read_objects l set words slots o zero = []
read_objects l set words slots o (suc n) =
    words_from words (slot_place l set o (slice_index slots o)) (object_at set o).size
    ∷ read_objects l set words slots (o + 1) n

-- a state, by words of which none is faulty
abbrev pub held_by : Layout → TaskSet → Words → Index → Held
held_by l set words x = record {
  index = x;
  objects = read_objects l set words x.slots 0 (length set.objects);
  boots = words 2;
  root = words l.root;
}

-- what stands in words of a kind, by the first faulty one
abbrev pub decided : Kind → TaskSet → Words → Option ℕ → Stored
decided kind set words None =
    let l = layout_of kind set in
    Holds kind (held_by l set words (read_index (length set.objects) (index_in l words)))
decided kind set words (Some j) =
    Damaged (read_place (layout_of kind set) (words (layout_of kind set).root) j)

-- what stands in words whose first one names a kind
unfoldable pub decode_kind : TaskSet → Words → Option Kind → Stored
decode_kind set words None = Damaged 0
decode_kind set words (Some kind) =
    decided kind set words (first_fault (layout_of kind set) set words)

-- what stands on a device, where those of a format are looked for
unfoldable pub decode_by : (format : ℕ) → TaskSet → Words → Stored
decode_by format set words =
    if words 0 == 0 then Blank else decode_kind set words (kind_named format (words 0))

-- what stands on a device of a set
abbrev pub decode : TaskSet → Words → Stored
decode set words = decode_by set.format set words

-- the kernel's model of what a device holds
abbrev pub durable_of : Held → Durable
durable_of h = record { state = base_of h.index h.objects; last = h.index.last; boots = h.boots }

-- the greatest number of finishes, boots or ids with which a kernel goes on
abbrev pub most_worn : ℕ
most_worn = 4000000000

-- so much has happened on a device that numbers could run out
abbrev pub is_worn : Durable → Bool
is_worn d =
    nat_lt most_worn d.state.number || (nat_lt most_worn d.state.next || nat_lt most_worn d.boots)
