-- A boot in its turns. This project's own.
use Rattle.std.specs.Prelude.{◌≡◌, ℕ, ◌+◌, ◌<◌, List, ◌++◌}
use Rattle.set_model.specs.Sets.{TaskSet}
use Rattle.device_model.specs.Words.{Change, Words}
use Rattle.device_model.specs.Layouts.{boot_turns_of}
use Rattle.device_model.specs.Journals.{boot_writes, booted}
use Rattle.device_model.specs.Devices.{HoldsOn, held_on, layout_on}
use Rattle.shadow_index.specs.declared.state.State.{State}
use Rattle.shadow_index.specs.States.{HasTaken}
use Rattle.shadow_index.specs.Tells.{IsShift, device_of}
use Rattle.recovery.specs.declared.boot.Boot.{Boot}
use Rattle.recovery.specs.Images.{IsStateOn, device_at}
use Rattle.recovery.specs.Reading.{HasRead, IsFresh}

-- how many turns were taken
abbrev pub turns_of : Boot → ℕ
turns_of boot = boot.reader.count

-- a boot that goes on, over the words of a device
pub record IsBooting (set : TaskSet) (words : Words) (boot : Boot) (into : State) : Type 0 where
  pub first : turns_of boot ≡ 0 → IsFresh set boot.reader × HasTaken set 0 into
  pub later : 0 < turns_of boot → HasRead (device_at set words) words boot.reader into

-- the words were those of a state; they are now those of the same with one boot more, and this is what was read
pub record IsBooted (set : TaskSet) (old new : Words) (into : State) : Type 0 where
  pub held : HoldsOn (device_at set old) (held_on (device_at set old) old) old
  pub counted : HoldsOn (device_at set old) (booted (held_on (device_at set old) old)) new
  pub state : IsStateOn (device_at set old) (booted (held_on (device_at set old) old)) into
  pub moved : IsShift set into.shift
  pub device : device_of set into.shift ≡ device_at set old

-- the words are those of a state, this is the last turn, and its one write is made
pub record IsCounted (set : TaskSet) (words : Words) (boot : Boot) (old new : List Change) : Type 0 where
  pub held : HoldsOn (device_at set words) (held_on (device_at set words) words) words
  pub last : turns_of boot + 1 ≡ boot_turns_of (layout_on (device_at set words))
  pub written : new ≡ old ++ boot_writes (held_on (device_at set words) words)
