-- What a kernel has before it begins on a device, how it begins there, and why it does not. This project's own.
use Rattle.std.specs.Prelude.{◌≡◌, ◌⊎◌, ℕ, ◌<◌, ◌≤◌, ◌==◌, nat_le, Bool, not, ◌&&◌, ◌||◌, List, [], ◌++◌, length, vec_capacity, true, false, Option, Some, None, if◌then◌else◌}
use Rattle.std.specs.List.{AllByRecursion}
use Rattle.nv_base.specs.Streams.{FaultCounted}
use Rattle.kernel_model.specs.Durable.{Durable}
use Rattle.set_model.specs.Sets.{TaskSet}
use Rattle.set_model.specs.Limits.{IsTaskSet}
use Rattle.device_model.specs.Words.{Change, Words}
use Rattle.device_model.specs.IndexWords.{Index}
use Rattle.device_model.specs.Layouts.{Plain, Paged, Migrated, magic_of}
use Rattle.device_model.specs.Decoding.{decode, durable_of, is_worn}
use Rattle.device_model.specs.Decoding as stored
use Rattle.device_model.specs.Migrations.{migration_writes, moved_held}
use Rattle.device_model.specs.Devices.{HoldsOn, first_on, format_on, held_on, migrated, need_on, plain}
use Rattle.shadow_index.specs.States.{HasTaken}
use Rattle.shadow_index.specs.Tells.{IsLayoutOf, device_of}
use Rattle.table_machine.specs.Tables.{Vacant}
use Rattle.recovery.specs.Images.{IsOwn, device_at}
use Rattle.headline.specs.Runs.{booting_origin, first_state, formatted_origin}
use Rattle.commit_writer.specs.Rooms.{IsFor as HasTables}
use Rattle.vol_copy.specs.Tries.{IsFor}
use Rattle.committed_state.specs.Committed.{HasRooms}
use Rattle.core_seats.specs.declared.seat.Seat.{Seat}
use Rattle.core_seats.specs.Holding.{StandsFor}
use Rattle.kernel_core.specs.Events.{IsAt}
use Rattle.kernel_core.specs.declared.kernel.Kernel.{Kernel}
use Rattle.kernel_core.specs.declared.kernel.Power.TheVariants as power
use Rattle.kernel_core.specs.declared.open.How.{How}
use Rattle.kernel_core.specs.declared.open.How.TheVariants.{Fresh, Again}
use Rattle.kernel_core.specs.declared.open.OpenRefusal.{OpenRefusal}
use Rattle.kernel_core.specs.declared.open.OpenRefusal.TheVariants.{Small, NoMemory, Lost, Blank, Damaged, Worn}

-- a core without a task, with room for all of a set
pub record IsIdle (set : TaskSet) (s : Seat) : Type 0 where
  pub kept : IsFor set s.attempt
  pub vacant : (after : Index) → StandsFor s after Vacant

-- so many of them
pub record AreIdle (set : TaskSet) (count : ℕ) (seats : List Seat) : Type 0 where
  pub number : length seats ≡ count
  pub all : AllByRecursion (IsIdle set) seats

-- all memory is taken for a set and so many finishes, and nothing has happened
pub record HasRoomFor (set : TaskSet) (room : ℕ) (k : Kernel) : Type 0 where
  pub set_is : k.set ≡ set
  pub limits : IsTaskSet set
  pub layout : IsLayoutOf (device_of set 0) k.layout
  pub seats : AreIdle set set.cores k.seats.items
  pub rooms : HasRooms set k.committed
  pub state : HasTaken set 0 k.committed.after
  pub writer : HasTables set k.writer.job
  pub owed : k.owed ≡ None
  pub listing : k.listing.items ≡ []
  pub capacity : room ≤ vec_capacity k.listing
  pub room_is : k.room ≡ room
  pub power : k.power ≡ power.On
  pub lost : k.lost ≡ false

-- the kernel is at the first state of a run on a device that was just formatted
abbrev pub IsOpenedOn : Kernel → Words → Type 0
IsOpenedOn k words = let o = formatted_origin (device_of k.set 0) in IsAt o k words (first_state o)

-- its words hold a state, and it is not worn
pub record HoldsFresh (set : TaskSet) (words : Words) : Type 0 where
  pub holds : HoldsOn (device_at set words) (held_on (device_at set words) words) words
  pub fresh : is_worn (durable_of (held_on (device_at set words) words)) ≡ false

-- the kernel is at the first state of a run that boots what its device holds
pub record IsBootOn (k : Kernel) (words : Words) : Type 0 where
  pub held : HoldsFresh k.set words
  pub at : let o = booting_origin (device_at k.set words) (held_on (device_at k.set words) words) in IsAt o k words (first_state o)

-- they hold a state, and it is worn
abbrev pub HoldsWorn : TaskSet → Words → Type 0
HoldsWorn set words =
    HoldsOn (device_at set words) (held_on (device_at set words) words) words
    × (is_worn (durable_of (held_on (device_at set words) words)) ≡ true)

-- why a kernel does not begin on what a device holds
abbrev pub IsNotBooted : TaskSet → Words → (old new : ℕ) → OpenRefusal → Type 0
IsNotBooted set words old new (Small need len) = ⊥
IsNotBooted set words old new NoMemory = ⊥
IsNotBooted set words old new Lost = FaultCounted old new
IsNotBooted set words old new Blank = decode set words ≡ stored.Blank
IsNotBooted set words old new (Damaged place) = decode set words ≡ stored.Damaged place
IsNotBooted set words old new Worn = HoldsWorn set words

-- ---- how a kernel begins

-- the writes of a migration of what stands on a device: of a state of format 1, for a set of format 2, that is not worn
abbrev pub migration_of : TaskSet → stored.Stored → List Change
migration_of set stored.Blank = []
migration_of set (stored.Damaged place) = []
migration_of set (stored.Holds Plain h) =
    if (set.format == 2) && not (is_worn (durable_of h)) then migration_writes set h else []
migration_of set (stored.Holds Paged h) = []
migration_of set (stored.Holds Migrated h) = []

-- what is written before the first event
abbrev pub opening_writes : How → TaskSet → Words → List Change
opening_writes Fresh set words = format_on (device_of set 0)
opening_writes Again set words = migration_of set (decode set words)

-- the kernel begins on these words: with power on, on the first state; or in a boot of what they hold
abbrev pub Begins : How → TaskSet → Words → Kernel → Type 0
Begins Fresh set later k = IsOpenedOn k later
Begins Again set later k = IsBootOn k later

-- a kernel of a set and so many finishes was opened on some words of a device, and has left later ones
pub record IsOpened (how : How) (set : TaskSet) (room : ℕ) (words : Words) (log : List Change) (later : Words) (grown : List Change) (k : Kernel) : Type 0 where
  pub set_is : k.set ≡ set
  pub room_is : k.room ≡ room
  pub live : k.lost ≡ false
  pub begins : Begins how set later k
  pub written : grown ≡ log ++ opening_writes how set words

-- ---- what stands on the device then, whether it begins or not

-- the durable state, if one stands there
abbrev pub durable_stored : stored.Stored → Option Durable
durable_stored stored.Blank = None
durable_stored (stored.Damaged place) = None
durable_stored (stored.Holds kind h) = Some (durable_of h)

-- of a format its words at entry, no state, or the first one; and else the state at entry, perhaps in another format
abbrev pub IsLeft : How → TaskSet → (words later : Words) → Type 0
IsLeft Fresh set words later =
    (later ≡ words) ⊎ (decode set later ≡ stored.Blank)
    ⊎ HoldsOn (device_of set 0) (first_on (device_of set 0)) later
IsLeft Again set words later =
    durable_stored (decode set later) ≡ durable_stored (decode set words)

-- ---- why it does not

-- word 0 names a kind that a migration for this set reads or writes
abbrev pub is_of_migration : TaskSet → Words → Bool
is_of_migration set words =
    (set.format == 2) && ((words 0 == magic_of Plain) || (words 0 == magic_of Migrated))

-- how many words a device must have: as many as its set needs; where it has these, as many as its migration needs
abbrev pub need_for : How → TaskSet → Words → (len : ℕ) → ℕ
need_for Fresh set words len = need_on (device_of set 0)
need_for Again set words len =
    if nat_le (need_on (device_of set 0)) len && is_of_migration set words
    then need_on (migrated set) else need_on (device_of set 0)

-- why no kernel begins on a device of so many words
abbrev pub IsNotOpened : How → TaskSet → Words → (len old new : ℕ) → OpenRefusal → Type 0
IsNotOpened how set words len old new (Small need most) =
    (need ≡ need_for how set words len) × (most ≡ len) × (len < need)
IsNotOpened how set words len old new NoMemory = new ≡ old
IsNotOpened how set words len old new Lost = FaultCounted old new
IsNotOpened how set words len old new Blank = (how ≡ Again) × (decode set words ≡ stored.Blank)
IsNotOpened how set words len old new (Damaged place) =
    (how ≡ Again) × (decode set words ≡ stored.Damaged place)
IsNotOpened how set words len old new Worn = (how ≡ Again) × HoldsWorn set words

-- ---- within

-- a state of format 1 was moved
pub record IsMoved (set : TaskSet) (words later : Words) : Type 0 where
  pub held : HoldsOn (plain set) (held_on (plain set) words) words
  pub fresh : is_worn (durable_of (held_on (plain set) words)) ≡ false
  pub moved : HoldsOn (migrated set) (moved_held set (held_on (plain set) words)) later

-- a boot may begin: the words are none that wait for a migration, and there are enough of them
pub record IsReady (set : TaskSet) (len : ℕ) (words later : Words) : Type 0 where
  pub own : IsOwn set later
  pub long : need_on (device_at set later) ≤ len
  pub same : ((later ≡ words) × (opening_writes Again set words ≡ [])) ⊎ IsMoved set words later
