-- The words of a state that is written anew, by where they stand. This project's own.
use Rattle.std.specs.Prelude.{◌≡◌, ℕ, ◌+◌, ◌*◌, ◌<◌, ◌≤◌, length}
use Rattle.set_model.specs.Sets.{TaskSet, object_at}
use Rattle.device_model.specs.Words.{Words}
use Rattle.device_model.specs.Layouts.{Layout, copy_place, slot_place, slots_words}
use Rattle.device_model.specs.IndexWords.{Index, index_word}

-- one page: its words of the index stand in copy 0, and copy 1 is 0
pub record HasPage (l : Layout) (x : Index) (page : ℕ) (w : Words) : Type 0 where
  pub current : (i : ℕ) → i < l.page_words
      → w (copy_place l page 0 0 + i) ≡ index_word x (page * l.page_words + i)
  pub other : (i : ℕ) → i < l.page_words → w (copy_place l page 1 0 + i) ≡ 0

-- all pages
abbrev pub HasPages : Layout → Index → Words → Type 0
HasPages l x w = (page : ℕ) → page < l.pages → HasPage l x page w

-- one object: its words stand in slot 0, and the other slots are 0
pub record HasObject (l : Layout) (set : TaskSet) (o : ℕ) (own : Words) (w : Words) : Type 0 where
  pub current : (i : ℕ) → i < (object_at set o).size → w (slot_place l set o 0 + i) ≡ own i
  pub others : (i : ℕ) → (object_at set o).size ≤ i → i < slots_words (object_at set o)
      → w (slot_place l set o 0 + i) ≡ 0

-- all objects
abbrev pub HasObjects : Layout → TaskSet → (own : ℕ → Words) → Words → Type 0
HasObjects l set own w = (o : ℕ) → o < length set.objects → HasObject l set o (own o) w
