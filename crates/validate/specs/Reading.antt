-- What an outside read finds: the table machine's version, or that the attempt is stale. This project's own.
use Rattle.std.specs.Prelude.{◌≡◌, ◌<◌, ℕ, true, false, List, Some, unwrap_or}
use Rattle.rv_core.specs.State.{MachineState}
use Rattle.kernel_model.specs.Intervals.{is_empty}
use Rattle.kernel_model.specs.Turns.{Stale}
use Rattle.interval.specs.Ranges.{range_of}
use Rattle.interval.specs.declared.ranges.Interval.{Interval}
use Rattle.interval.specs.declared.version.Version.{Version}
use Rattle.slot_model.specs.Tabled.{Place, chosen_place}
use Rattle.table_machine.specs.Tables.{Try, Vacant}
use Rattle.table_machine.specs.Places.{places_at}
use Rattle.table_machine.specs.Seats.{SeatTurn, fetch_version, open_copy}
use Rattle.ver_table.specs.Chains.{Chain, chain_at, in_slot}
use Rattle.ver_table.specs.Tabled.{all_tabled}
use Rattle.validate.specs.declared.reading.Stale as own

-- the version that stands at a place of its object
pub record IsVersionAt (chains : List Chain) (v : Version) (p : Place) : Type 0 where
  pub slot : v.slot ≡ p.slot
  pub begin : v.begin.0 ≡ p.begin
  pub stands : in_slot v.slot (chain_at chains v.object.0).stored ≡ Some p

-- a try with this interval of reads takes this version of an object
pub record IsAdmitted (chains : List Chain) (reads : Interval) (object : ℕ) (v : Version) : Type 0 where
  pub some : is_empty (range_of reads) ≡ false
  pub named : v.object.0 ≡ object
  pub inside : v.slot < (chain_at chains object).slots
  pub place : Place
  pub chosen : chosen_place (range_of reads).hi (places_at (all_tabled chains) object) ≡ Some place
  pub version : IsVersionAt chains v place
  pub fetched : (n : ℕ) (t : Try MachineState) (m : MachineState) → t.interval ≡ range_of reads → fetch_version (all_tabled chains) n t m object ≡ open_copy t m object (Some place)

-- what is told of a try that is stale
abbrev pub stale_turn : (n task : ℕ) → own.Stale → SeatTurn MachineState
stale_turn n task s = record { seat = Vacant; line = Stale n task s.lo.0 s.hi.0 }

-- a try with this interval of reads has no version to read
pub record IsStale (chains : List Chain) (reads : Interval) (object : ℕ) (s : own.Stale) : Type 0 where
  pub none : is_empty (range_of reads) ≡ true
  pub lo : s.lo.0 ≡ (range_of reads).lo
  pub hi : s.hi.0 ≡ unwrap_or (range_of reads).hi 0
  pub fetched : (n : ℕ) (t : Try MachineState) (m : MachineState) → t.interval ≡ range_of reads → fetch_version (all_tabled chains) n t m object ≡ stale_turn n t.task s
