-- A migration: what it moves, what it leaves as it is, and why it is refused. This project's own.
use Rattle.std.specs.Prelude.{◌≡◌, ℕ, ◌<◌, ◌≤◌, ◌⊎◌, true, false, List, ◌++◌}
use Rattle.nv_base.specs.Streams.{FaultCounted}
use Rattle.set_model.specs.Sets.{TaskSet}
use Rattle.device_model.specs.Words.{Change, Words}
use Rattle.device_model.specs.Layouts.{Plain, Migrated, magic_of}
use Rattle.device_model.specs.Decoding as stored
use Rattle.device_model.specs.Decoding.{decode, durable_of, is_worn}
use Rattle.device_model.specs.Migrations.{migration_writes}
use Rattle.device_model.specs.Devices.{HoldsOn, held_on, migrated, need_on, plain}
use Rattle.device_format.specs.Puts.{HasFront}
use Rattle.recovery.specs.declared.refusals.MigrateRefusal.{MigrateRefusal}
use Rattle.recovery.specs.declared.refusals.MigrateRefusal.TheVariants.{Small, Damaged, Worn, Lost}
use Rattle.recovery.specs.Images.{IsUnmoved}

-- word 0 names a kind that a migration reads or writes
abbrev pub IsMovedKind : Words → Type 0
IsMovedKind words = (words 0 ≡ magic_of Plain) ⊎ (words 0 ≡ magic_of Migrated)

-- the words are those of format 1, and a device of so many has room for those of format 2 behind them
pub record IsPlainIn (set : TaskSet) (words : Words) (len : ℕ) : Type 0 where
  pub named : words 0 ≡ magic_of Plain
  pub room : need_on (migrated set) ≤ len

-- they hold a state, and it is not worn
pub record CanMove (set : TaskSet) (words : Words) (len : ℕ) : Type 0 where
  pub old : IsPlainIn set words len
  pub held : HoldsOn (plain set) (held_on (plain set) words) words
  pub fresh : is_worn (durable_of (held_on (plain set) words)) ≡ false

-- all writes of a migration of what the words hold
abbrev pub HasMoved : TaskSet → Words → (old new : List Change) → Type 0
HasMoved set words old new = new ≡ old ++ migration_writes set (held_on (plain set) words)

-- the first of them
abbrev pub HasBegun : TaskSet → Words → (old new : List Change) → Type 0
HasBegun set words old new = HasFront (migration_writes set (held_on (plain set) words)) old new

-- there was nothing to migrate and nothing was written, or the state was moved
abbrev pub IsMigrated : TaskSet → Words → (len : ℕ) → (old new : List Change) → Type 0
IsMigrated set words len old new =
    (IsUnmoved set words × (new ≡ old))
    ⊎ ((words 0 ≡ magic_of Migrated) × (need_on (migrated set) ≤ len) × (new ≡ old))
    ⊎ (CanMove set words len × HasMoved set words old new)

-- the words of format 1 hold a state, and it is worn
pub record IsWornIn (set : TaskSet) (words : Words) (len : ℕ) : Type 0 where
  pub old : IsPlainIn set words len
  pub held : HoldsOn (plain set) (held_on (plain set) words) words
  pub worn : is_worn (durable_of (held_on (plain set) words)) ≡ true

-- why a device was not migrated
abbrev pub IsUnmigrated : TaskSet → Words → (len : ℕ) → (old new : ℕ) → MigrateRefusal → Type 0
IsUnmigrated set words len old new (Small need most) =
    IsMovedKind words × (need ≡ need_on (migrated set)) × (most ≡ len) × (len < need_on (migrated set))
IsUnmigrated set words len old new (Damaged place) =
    IsPlainIn set words len × (decode set words ≡ stored.Damaged place)
IsUnmigrated set words len old new Worn = IsWornIn set words len
IsUnmigrated set words len old new Lost = FaultCounted old new
