-- Which tables a kernel stands for, on which device words. This project's own.
use Rattle.std.specs.Prelude.{◌≡◌, ℕ, ◌+◌, ◌<◌, ◌≤◌, List, [], length, map, get_or, vec_capacity, Option}
use Rattle.std.specs.List.{AllByRecursion}
use Rattle.rv_core.specs.State.{MachineState}
use Rattle.nv_base.specs.declared.limits.TheConstants.{MAX_CORES}
use Rattle.kernel_model.specs.Items.{Entry, FinishRecord}
use Rattle.kernel_model.specs.Replay.{DeviceState}
use Rattle.kernel_model.specs.Events.{On, Boot, State}
use Rattle.kernel_model.specs.Fit.{HasIds}
use Rattle.set_model.specs.Limits.{IsTaskSet}
use Rattle.set_model.specs.Views.{entry_if, entry_of}
use Rattle.device_model.specs.Words.{Words}
use Rattle.device_model.specs.Layouts.{IsKindOf, boot_turns_of}
use Rattle.device_model.specs.IndexWords.{Index}
use Rattle.device_model.specs.Devices.{layout_on}
use Rattle.shadow_index.specs.States.{index_of}
use Rattle.shadow_index.specs.Tells.{IsLayoutOf, IsShift, device_of}
use Rattle.table_machine.specs.Tables.{Vacant, Saves, Tables}
use Rattle.table_machine.specs.Events.{no_index}
use Rattle.table_machine.specs.Represents.{Represents}
use Rattle.recovery.specs.Images.{IsOwn, device_at}
use Rattle.recovery.specs.Booting.{IsBooting, turns_of}
use Rattle.recovery.specs.declared.boot.Boot as own
use Rattle.commit_writer.specs.Rooms.{IsFor as HasTables}
use Rattle.vol_copy.specs.Tries.{IsFor}
use Rattle.core_seats.specs.declared.seat.Seat.{Seat}
use Rattle.core_seats.specs.Holding.{AreSeats}
use Rattle.committed_state.specs.Committed.{HasRooms, IsCommitted, chains_in}
use Rattle.kernel_core.specs.Commits.{IsCommitting, setting_on}
use Rattle.kernel_core.specs.declared.kernel.Kernel.{Kernel}
use Rattle.kernel_core.specs.declared.kernel.Power.{Power}
use Rattle.kernel_core.specs.declared.kernel.Power.TheVariants as power

-- a core's seat, and where there is none one without a task
abbrev pub IsSeatNumber : List Seat → ℕ → Seat → Type 0
IsSeatNumber seats n s = (n < length seats) × (s ≡ get_or seats n s)

-- while power is on: what has committed, and the commit under way
pub record IsOn (k : Kernel) (words : Words) (t : Tables MachineState) : Type 0 where
  pub power : t.power ≡ On
  pub boots : t.boots ≡ k.committed.state.boots
  pub index : t.index ≡ index_of k.committed.state
  pub root : t.root ≡ k.committed.state.root
  pub chains : t.chains ≡ chains_in k.committed
  pub committed : IsCommitted k.set k.committed
  pub shift : IsShift k.set k.committed.state.shift
  pub device : device_of k.set k.committed.state.shift ≡ device_at k.set words
  pub commits : (n : ℕ) (s : Seat) (i : FinishRecord) (after : Index) (left : ℕ) → IsSeatNumber k.seats.items n s → get_or t.seats n Vacant ≡ Saves i after left
      → IsCommitting k.set words k.committed k.writer s t i after left

-- in a boot: what it has read, and how many turns are left
pub record IsInBoot (k : Kernel) (words : Words) (t : Tables MachineState) (b : own.Boot) : Type 0 where
  pub left : ℕ
  pub some : 0 < left
  pub counted : turns_of b + left ≡ boot_turns_of (layout_on (device_at k.set words))
  pub power : t.power ≡ Boot left
  pub boots : t.boots ≡ words 2
  pub index : t.index ≡ no_index
  pub root : t.root ≡ 0
  pub chains : t.chains ≡ []
  pub booting : IsBooting k.set words b k.committed.after

abbrev pub IsPowered : Kernel → Words → Tables MachineState → Power → Type 0
IsPowered k words t power.On = IsOn k words t
IsPowered k words t (power.Boot b) = IsInBoot k words t b

-- the kernel stands for the tables, on these words
pub record Keeps (k : Kernel) (words : Words) (t : Tables MachineState) : Type 0 where
  pub limits : IsTaskSet k.set
  pub cores : length k.seats.items ≡ k.set.cores
  pub few : length k.seats.items ≤ MAX_CORES
  pub attempts : AllByRecursion (λ s. IsFor k.set s.attempt) k.seats.items
  pub own : IsOwn k.set words
  pub layout : IsLayoutOf (device_at k.set words) k.layout
  pub rooms : HasRooms k.set k.committed
  pub writer : HasTables k.set k.writer.job
  pub seats : AreSeats k.seats.items (index_of k.committed.after) t.seats
  pub owed : t.owed ≡ entry_if k.owed
  pub entries : t.entries ≡ map entry_of k.listing.items
  pub capacity : k.room ≤ vec_capacity k.listing
  pub powered : IsPowered k words t k.power

-- the tables stand for a state of the event machine, which has ids and numbers for as many finishes as there is room for
pub record IsLawful (k : Kernel) (words : Words) (t : Tables MachineState) : Type 0 where
  pub base : DeviceState
  pub last : Option Entry
  pub state : State MachineState
  pub represented : Represents (setting_on k.set words) base last t words state
  pub kind : IsKindOf k.set.format (device_at k.set words).kind
  pub ids : HasIds base (k.room + 1)
  pub numbers : base.number + k.room + 1 < 4294967295
  pub room : length state.history ≤ k.room
