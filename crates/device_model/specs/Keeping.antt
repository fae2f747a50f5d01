-- The words of a device keep a state: what code keeps, place by place. This project's own.
use Rattle.std.specs.Prelude.{◌≡◌, ◌≢◌, ℕ, ◌+◌, ◌<◌, ◌≤◌, true, length, slice_index}
use Rattle.kernel_model.specs.Effects.{object_words}
use Rattle.set_model.specs.Sets.{TaskSet, object_at}
use Rattle.set_model.specs.Numbers.{first_index}
use Rattle.device_model.specs.Words.{Words}
use Rattle.device_model.specs.Layouts.{Kind, Layout, layout_of, header_word, index_place, index_reads, slot_place}
use Rattle.device_model.specs.IndexWords.{IsIndex, index_word}
use Rattle.device_model.specs.Decoding.{Held}

-- the state is one that a device may have: its index is, and each object has the words of its size
pub record IsHeld (set : TaskSet) (l : Layout) (h : Held) : Type 0 where
  pub index : IsIndex set h.index
  pub objects : length h.objects ≡ length set.objects
  pub words : (o : ℕ) → o < length set.objects
      → length (object_words h.objects o) ≡ (object_at set o).size
  pub root : l.is_root h.root ≡ true

-- the words that are read keep the state
pub record KeepsIn (set : TaskSet) (l : Layout) (h : Held) (words : Words) : Type 0 where
  pub held : IsHeld set l h
  pub header : (j : ℕ) → j < first_index set → j ≢ 1 → j ≢ 2 → words j ≡ header_word l set j
  pub boots : words 2 ≡ h.boots
  pub root : words l.root ≡ h.root
  pub index : (i : ℕ) → i < index_reads l → words (index_place l h.root i) ≡ index_word h.index i
  pub objects : (o i : ℕ) → o < length set.objects → i < (object_at set o).size
      → words (slot_place l set o (slice_index h.index.slots o) + i)
      ≡ slice_index (object_words h.objects o) i

abbrev pub Keeps : Kind → TaskSet → Held → Words → Type 0
Keeps kind set h words = KeepsIn set (layout_of kind set) h words

-- a place on which the state does not rest: it is behind the header, and no word of it is read
pub record IsFree (set : TaskSet) (l : Layout) (h : Held) (p : ℕ) : Type 0 where
  pub header : first_index set ≤ p
  pub root : p ≢ l.root
  pub index : (i : ℕ) → i < index_reads l → p ≢ index_place l h.root i
  pub objects : (o i : ℕ) → o < length set.objects → i < (object_at set o).size
      → p ≢ slot_place l set o (slice_index h.index.slots o) + i
