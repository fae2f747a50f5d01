-- What was read of a device so far, and how reading is refused. This project's own.
use Rattle.std.specs.Prelude.{◌≡◌, ◌≢◌, ℕ, ◌-◌, ◌<◌, ◌≤◌, false, Some}
use Rattle.nv_base.specs.Streams.{FaultCounted}
use Rattle.set_model.specs.Sets.{TaskSet}
use Rattle.set_model.specs.Limits.{IsTaskSet}
use Rattle.device_model.specs.Words.{Words}
use Rattle.device_model.specs.Layouts.{kind_named, reads}
use Rattle.device_model.specs.Decoding as stored
use Rattle.device_model.specs.Decoding.{decode, index_in}
use Rattle.device_model.specs.Devices.{Device, HoldsOn, held_on, is_faulty_on, layout_on, migrated, read_on}
use Rattle.shadow_index.specs.declared.state.State.{State}
use Rattle.shadow_index.specs.States.{HasTaken, taken_word}
use Rattle.shadow_index.specs.Tells.{IsLayoutOf, IsShift, device_of}
use Rattle.recovery.specs.declared.reader.Reader.{Reader}
use Rattle.recovery.specs.declared.refusals.BootRefusal.{BootRefusal}
use Rattle.recovery.specs.declared.refusals.BootRefusal.TheVariants.{Blank, Damaged, Lost}
use Rattle.recovery.specs.Images.{IsStateOn, device_at, shift_on}

-- no word was read yet
pub record IsFresh (set : TaskSet) (r : Reader) : Type 0 where
  pub none : r.count ≡ 0
  pub layout : IsLayoutOf (device_of set 0) r.layout
  pub moved : IsLayoutOf (migrated set) r.migrated

-- the words before number count were read, none of them is faulty, and a state has taken what they tell
pub record HasRead (d : Device) (words : Words) (r : Reader) (into : State) : Type 0 where
  pub limits : IsTaskSet d.set
  pub some : 0 < r.count
  pub most : r.count ≤ reads (layout_on d)
  pub layout : IsLayoutOf d r.layout
  pub written : words 0 ≢ 0
  pub named : kind_named d.set.format (words 0) ≡ Some d.kind
  pub faultless : (j : ℕ) → j < r.count → is_faulty_on d words j ≡ false
  pub shift : into.shift ≡ shift_on d
  pub root : (layout_on d).root_read < r.count → into.root ≡ words (layout_on d).root
  pub boots : 2 < r.count → into.boots ≡ words 2
  pub taken : HasTaken d.set (r.count - (layout_on d).head_reads) into
  pub index : (i : ℕ) → i < r.count - (layout_on d).head_reads
      → taken_word into i ≡ index_in (layout_on d) words i

-- why the word that is read as number j was not taken: it tells that nothing is there, or is the first faulty one, or a call was lost
abbrev pub IsRefusedAt : TaskSet → Words → (j : ℕ) → (old new : ℕ) → BootRefusal → Type 0
IsRefusedAt set words j old new Blank = decode set words ≡ stored.Blank
IsRefusedAt set words j old new (Damaged place) =
    (decode set words ≡ stored.Damaged place) × (place ≡ read_on (device_at set words) words j)
IsRefusedAt set words j old new Lost = FaultCounted old new

-- why a device was not read
abbrev pub IsRefused : TaskSet → Words → (old new : ℕ) → BootRefusal → Type 0
IsRefused set words old new Blank = decode set words ≡ stored.Blank
IsRefused set words old new (Damaged place) = decode set words ≡ stored.Damaged place
IsRefused set words old new Lost = FaultCounted old new

-- the words are those of a state, and this is what was read of it; how far its words were moved tells of which kind the device is
pub record IsRead (set : TaskSet) (words : Words) (into : State) : Type 0 where
  pub held : HoldsOn (device_at set words) (held_on (device_at set words) words) words
  pub state : IsStateOn (device_at set words) (held_on (device_at set words) words) into
  pub moved : IsShift set into.shift
  pub device : device_of set into.shift ≡ device_at set words
