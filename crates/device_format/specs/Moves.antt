-- What a migration reads of a device of format 1. This project's own.
use Rattle.std.specs.Prelude.{◌≡◌, ℕ, ◌+◌, ◌<◌, length, slice_index}
use Rattle.set_model.specs.Sets.{TaskSet, object_at}
use Rattle.device_model.specs.Words.{Words}
use Rattle.device_model.specs.Layouts.{Plain, layout_of, slot_place}
use Rattle.device_model.specs.Decoding.{Held}
use Rattle.device_model.specs.Devices.{HoldsOn, plain}
use Rattle.shadow_index.specs.declared.state.State.{State}
use Rattle.shadow_index.specs.States.{index_of}

-- the words of each object, where they stand in format 1
abbrev pub old_words : TaskSet → State → Words → (o : ℕ) → Words
old_words set s words o i =
    words (slot_place (layout_of Plain set) set o (slice_index s.slots.items o) + i)

-- each object is in one of its slots
abbrev pub IsInSlots : TaskSet → State → Type 0
IsInSlots set s = (o : ℕ) → o < length set.objects → slice_index s.slots.items o < (object_at set o).slots

-- words of format 1 hold a state, and its index is known
pub record IsMovable (set : TaskSet) (s : State) (words : Words) (h : Held) : Type 0 where
  pub holds : HoldsOn (plain set) h words
  pub index : index_of s ≡ h.index
