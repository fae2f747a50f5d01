-- Of which device some words are, and what a state in memory is of what a device holds. This project's own.
use Rattle.std.specs.Prelude.{◌≡◌, ◌≢◌, ℕ, ◌-◌, List, Option, None, Some, slice_index}
use Rattle.set_model.specs.Sets.{TaskSet}
use Rattle.set_model.specs.Numbers.{first_index, words_needed}
use Rattle.device_model.specs.Words.{Change, Words, made_in}
use Rattle.device_model.specs.Layouts.{Kind, Plain, Paged, Migrated, kind_named, magic_of}
use Rattle.device_model.specs.Decoding.{Held}
use Rattle.device_model.specs.Devices.{Device}
use Rattle.shadow_index.specs.declared.state.State.{State}
use Rattle.shadow_index.specs.States.{index_of}
use Rattle.shadow_index.specs.Views.{first_kind}

-- the word at each place of a device, by its first words and all writes to it
abbrev pub words_of : (log : List Change) → (start : List ℕ) → Words
words_of log start = slice_index (made_in log start)

-- a kind, where one is named, and else another
abbrev pub kind_or : Kind → Option Kind → Kind
kind_or other None = other
kind_or other (Some kind) = kind

-- the device that word 0 names, and where it names none the first one of the set
abbrev pub device_at : TaskSet → Words → Device
device_at set words = record {
  kind = kind_or (first_kind set.format) (kind_named set.format (words 0));
  set = set;
}

-- they are no words of format 1 for a set of format 2: a device of these is migrated first
abbrev pub IsOwn : TaskSet → Words → Type 0
IsOwn set words = set.format ≡ 2 → words 0 ≢ magic_of Plain

-- word 0 names no kind that a migration reads or writes
abbrev pub IsUnmoved : TaskSet → Words → Type 0
IsUnmoved set words = IsOwn set words × (words 0 ≢ magic_of Migrated)

-- how far the words of a kind of device were moved
abbrev pub shift_by : Kind → TaskSet → ℕ
shift_by Plain set = 0
shift_by Paged set = 0
shift_by Migrated set = words_needed set - first_index set

-- the same of a device
abbrev pub shift_on : Device → ℕ
shift_on d = shift_by d.kind d.set

-- a state in memory is one that a device holds, without the words of its objects
pub record IsStateOn (d : Device) (h : Held) (s : State) : Type 0 where
  pub index : index_of s ≡ h.index
  pub boots : s.boots ≡ h.boots
  pub root : s.root ≡ h.root
  pub shift : s.shift ≡ shift_on d
