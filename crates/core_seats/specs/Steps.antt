-- What a core's own steps are in the kernel over tables. This project's own.
use Rattle.std.specs.Prelude.{◌≡◌, ℕ, ◌+◌, ◌<◌, false, List, IsSome, is_some, length, Option, Some, None}
use Rattle.object_sets.specs.ObjectSets.{is_among}
use Rattle.rv_core.specs.State.{MachineState}
use Rattle.nv_base.specs.declared.ids.ObjId.{ObjId}
use Rattle.nv_base.specs.declared.lines.Entry.{Entry}
use Rattle.nv_base.specs.declared.lines.Outcome.{Outcome}
use Rattle.kernel_model.specs.Effects.{written}
use Rattle.kernel_model.specs.Items.{FinishRecord, entry_of}
use Rattle.kernel_model.specs.Intervals.{is_empty}
use Rattle.kernel_model.specs.Turns as turns
use Rattle.set_model.specs.Sets.{TaskSet}
use Rattle.set_model.specs.Views as told
use Rattle.device_model.specs.IndexWords.{Index}
use Rattle.device_model.specs.Words.{Words}
use Rattle.device_model.specs.Layouts.{Layout, slot_place}
use Rattle.task_model.specs.TaskSteps.{task_steps}
use Rattle.interval.specs.Ranges.{number_of, range_of}
use Rattle.interval.specs.declared.ranges.Interval.{Interval}
use Rattle.table_machine.specs.Tables as table
use Rattle.table_machine.specs.Tables.{Try, Runs, Copies, Saves}
use Rattle.table_machine.specs.Events.{cut_seat}
use Rattle.table_machine.specs.Seats.{SeatTurn, copy_word, fetch_version, run_step}
use Rattle.ver_table.specs.Chains.{Chain, chain_at, newest_before}
use Rattle.ver_table.specs.Tabled.{all_tabled}
use Rattle.validate.specs.declared.reading.Stale.{Stale}
use Rattle.vol_copy.specs.Tries.{IsFor, IsTry, run_in}
use Rattle.vol_copy.specs.Turns.{setting_of}
use Rattle.vol_copy.specs.declared.attempt.Stage.TheVariants as stage
use Rattle.vol_copy.specs.declared.want.Want.{Want}
use Rattle.core_seats.specs.Holding.{StandsFor}
use Rattle.core_seats.specs.declared.seat.Seat.{Seat}

-- the table has a version of each object of the set for an interval of reads that is not empty
pub record HasVersions (set : TaskSet) (reads : Interval) (chains : List Chain) : Type 0 where
  pub number : length chains ≡ length set.objects
  pub begun : (o : ℕ) → o < length set.objects → is_empty (range_of reads) ≡ false
      → IsSome (newest_before (number_of reads.hi) (chain_at chains o).stored)

-- what is told of a try that was dropped, if it was
abbrev pub Tells : (n task : ℕ) → Option Stale → turns.Line → Type 0
Tells n task None line = line ≡ turns.Nothing
Tells n task (Some s) line = line ≡ turns.Stale n task s.lo.0 s.hi.0

-- the new seat stands for what a step makes of the old one
pub record Leaves (new : Seat) (after : Index) (n task : ℕ) (stale : Option Stale)
    (turn : SeatTurn MachineState) : Type 0 where
  pub stands : StandsFor new after turn.seat
  pub tells : Tells n task stale turn.line

-- one step of a try that runs, on any core
unfoldable pub RunsOn : TaskSet → List Chain → Seat → Seat → Option Stale → Type 0
RunsOn set chains old new stale =
    (after : Index) (n : ℕ) (t : Try MachineState) → StandsFor old after (Runs t)
    → Leaves new after n t.task stale (run_step (task_steps set) (all_tabled chains) n t ((task_steps set).step t.state))

-- an outside read of an object, where the try has this interval and the machine waits
unfoldable pub Fetches : List Chain → Seat → ObjId → Seat → Option Stale → Type 0
Fetches chains old o new stale =
    (after : Index) (n : ℕ) (t : Try MachineState) (m : MachineState)
    → IsTry old.attempt (record t { state = m }) → t.interval ≡ range_of old.reads
    → Leaves new after n t.task stale (fetch_version (all_tabled chains) n t m o.0)

-- one word of a copy, on each device where the word stands at its place in the slot
unfoldable pub CopiesOn : Seat → (word : ℕ) → Seat → Type 0
CopiesOn old word new =
    (set : TaskSet) → IsFor set old.attempt → (after : Index) (o : ObjId) (w : Want) (copied : ℕ)
    → old.attempt.stage ≡ stage.Copying o w copied
    → (layout : Layout) (words : Words) (t : Try MachineState) → StandsFor old after (Copies t old.slot)
    → word ≡ words (slot_place layout set o.0 old.slot + copied)
    → (let turn = copy_word (setting_of set layout) words t old.slot t.copies in
    StandsFor new after turn.seat × (turn.line ≡ turns.Nothing))

-- the finish of a try that has ended is granted: whatever index comes after it, the core stands for the seat that commits it, with all of its writes left
unfoldable pub Grants : Seat → Entry → Seat → Type 0
Grants old e new =
    (o : Outcome) (i : FinishRecord) (after : Index) (left : ℕ)
    → old.attempt.stage ≡ stage.Ready o → entry_of i ≡ told.entry_of e → e.task ≡ old.attempt.task
    → i.run ≡ run_in old.attempt o → 0 < left
    → StandsFor new after (Saves i after left)

-- all writes of a finish that commits are made
unfoldable pub Completes : Seat → Seat → Type 0
Completes old new =
    (i : FinishRecord) (after : Index) (left : ℕ)
    → StandsFor old after (Saves i after left) → StandsFor new after (Saves i after 0)

-- a finish that wrote these objects joins at a point
unfoldable pub IsCutBy : (point : ℕ) → (written : List ℕ) → Seat → Seat → Type 0
IsCutBy point objects old new =
    (after : Index) (i : FinishRecord) (seat : table.Seat MachineState) → i.point ≡ point
    → ((o : ℕ) → is_some (written i.run.writes o) ≡ is_among o objects)
    → StandsFor old after seat → StandsFor new after (cut_seat i seat)
