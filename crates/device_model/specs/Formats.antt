-- The writes of a format, and the state that it leaves. This project's own.
use Rattle.std.specs.Prelude.{ℕ, ◌+◌, ◌-◌, ◌*◌, ◌/◌, ◌%◌, ◌==◌, nat_lt, List, [], ◌∷◌, ◌++◌, length, replicate, slice_index, None, if◌then◌else◌}
use Rattle.kernel_model.specs.Effects.{Objects, object_words}
use Rattle.set_model.specs.Sets.{ObjPart, TaskSet}
use Rattle.set_model.specs.Numbers.{first_index}
use Rattle.set_model.specs.Formatted.{formatted}
use Rattle.device_model.specs.Words.{Words, Change, words_from, written_at}
use Rattle.device_model.specs.Layouts.{Layout, header_word, need, slots_at, slots_words}
use Rattle.device_model.specs.IndexWords.{Index, index_word}
use Rattle.device_model.specs.Decoding.{Held}

-- word p of the slots of some objects, the first of them number o: the objects' words in slot 0, and 0 in the others
abbrev pub fresh_slot_word : List ObjPart → Objects → ℕ → ℕ → ℕ
fresh_slot_word [] objects o p = 0
fresh_slot_word (part ∷ parts) objects o p =
    if nat_lt p (slots_words part) then slice_index (object_words objects o) p
    else fresh_slot_word parts objects (o + 1) (p - slots_words part)

-- word p of the pages: the index in copy 0 of each page, and 0 in copy 1
abbrev pub fresh_page_word : Layout → Index → ℕ → ℕ
fresh_page_word l x p =
    if p / l.page_words % 2 == 0
    then index_word x (p / l.page_words / 2 * l.page_words + p % l.page_words) else 0

-- the word at each place where a state is written anew
unfoldable pub fresh_word : Layout → TaskSet → Index → Objects → Words
fresh_word l set x objects place =
    if place == l.root then l.first_root
    else if nat_lt place (first_index set) then header_word l set place
    else if nat_lt place (slots_at l) then fresh_page_word l x (place - l.pages_at)
    else fresh_slot_word set.objects objects 0 (place - slots_at l)

-- the state that is written anew: each object in slot 0, copy 0 of each page
abbrev pub fresh_held : Layout → Index → Objects → ℕ → Held
fresh_held l x objects boots = record {
  index = x;
  objects = objects;
  boots = boots;
  root = l.first_root;
}

-- the first slot of each object
abbrev pub first_slots : TaskSet → List ℕ
first_slots set = replicate (length set.objects) 0

-- the index that a format leaves
abbrev pub formatted_index : TaskSet → Index
formatted_index set = record {
  clock = 0;
  number = 0;
  next = length set.tasks + 1;
  last = None;
  slots = first_slots set;
  tasks = (formatted set).tasks;
}

-- the state that a format leaves
abbrev pub formatted_held : Layout → TaskSet → Held
formatted_held l set = fresh_held l (formatted_index set) (formatted set).objects 0

-- the word that a format leaves at each place: word 1 is the root in format 1, and 0 else
abbrev pub format_word : Layout → TaskSet → Words
format_word l set = fresh_word l set (formatted_index set) (formatted set).objects

-- the words from 1 on, in order of place
abbrev pub formatted_words : Layout → TaskSet → List ℕ
formatted_words l set = words_from (format_word l set) 1 (need l set - 1)

-- all but the last write: a 0 in place of the magic, and then the other words
abbrev pub format_body : Layout → TaskSet → List Change
format_body l set = (0, 0) ∷ written_at 1 (formatted_words l set)

-- the writes of a format: the magic comes last
unfoldable pub format_writes : Layout → TaskSet → List Change
format_writes l set = format_body l set ++ (0, l.magic) ∷ []
