-- What is asked of a verdict, and that its answer is the table machine's. This project's own.
use Rattle.std.specs.Prelude.{◌≡◌, ◌<◌, ℕ, false, List, Some, length, map, slice_index}
use Rattle.std.specs.List.{AllByRecursion}
use Rattle.nv_base.specs.declared.lines.Outcome.{Outcome}
use Rattle.rv_core.specs.State.{MachineState}
use Rattle.kernel_model.specs.Sizes.{Sizes}
use Rattle.kernel_model.specs.Items.{FinishRecord, entry_of}
use Rattle.kernel_model.specs.Verdicts.{Verdict, Granted, Empty, Slots, Records}
use Rattle.interval.specs.Ranges.{range_of}
use Rattle.interval.specs.declared.ranges.Interval.{Interval}
use Rattle.slot_model.specs.Tabled.{Tables, View, free_place, table_verdict}
use Rattle.set_model.specs.Sets.{TaskSet}
use Rattle.set_model.specs.Views as told
use Rattle.shadow_index.specs.declared.plan.Plan.{Plan}
use Rattle.device_model.specs.IndexWords.{Index}
use Rattle.table_machine.specs.Tables.{Seat, Try, chain_at}
use Rattle.table_machine.specs.Places.{places_at, run_by, views_in}
use Rattle.task_queue.specs.Queues.{Queued}
use Rattle.ver_table.specs.Chains as own
use Rattle.ver_table.specs.Tabled.{all_tabled}
use Rattle.vol_copy.specs.Tries.{IsEndedTry, IsFor}
use Rattle.vol_copy.specs.declared.attempt.Attempt.{Attempt}
use Rattle.vol_copy.specs.declared.attempt.Stage.TheVariants as stage
use Rattle.validate.specs.declared.verdict.Verdict as code
use Rattle.validate.specs.declared.verdict.Verdict.TheVariants as answer

-- what a verdict looks at: the table, the open tasks, the clock, the number of the last finish, and what is kept of the attempts on other cores
pub record Seen : Type 0 where
  pub chains : List own.Chain
  pub queue : Queued
  pub clock : ℕ
  pub number : ℕ
  pub others : List View

-- as the table machine has it
abbrev pub tables_in : Seen → Tables
tables_in s = record {
  places = places_at (all_tabled s.chains);
  bounds = λ o. (chain_at (all_tabled s.chains) o).bound;
  clock = s.clock;
  number = s.number;
  next = s.queue.next;
  pending = length s.queue.tasks;
}

-- the slots are those of the objects, and the records those of the queue
pub record AreSizes (s : Seen) (sizes : Sizes) : Type 0 where
  pub slots : (o : ℕ) → o < length s.chains → sizes.slots o ≡ (own.chain_at s.chains o).slots
  pub records : sizes.records ≡ s.queue.records

-- table and attempt are for one set
pub record AreForOne (set : TaskSet) (chains : List own.Chain) (a : Attempt) : Type 0 where
  pub table : map (λ c. c.slots) chains ≡ map (λ p. p.slots) set.objects
  pub attempt : IsFor set a

-- the least free slot of an object, which is one of its slots, and not that of its newest version
pub record IsPlanned (s : Seen) (sizes : Sizes) (o slot : ℕ) : Type 0 where
  pub free : free_place (sizes.slots o) o s.others (places_at (all_tabled s.chains) o) ≡ Some slot
  pub inside : slot < (own.chain_at s.chains o).slots
  pub older : own.holds_newest slot (own.chain_at s.chains o).stored ≡ false

-- the plan of a finish: its entry, and a free slot for each object that it writes
pub record IsPlanOf (s : Seen) (sizes : Sizes) (plan : Plan) (i : FinishRecord) : Type 0 where
  pub entry : told.entry_of plan.granted ≡ entry_of i
  pub written : plan.written ≡ map (λ w. w.object) i.run.writes
  pub slots : AllByRecursion (λ o. IsPlanned s sizes o (slice_index plan.slots o)) plan.written

-- the program's verdict is that of the model
abbrev pub IsVerdict : Seen → Sizes → code.Verdict → Verdict → Type 0
IsVerdict s sizes (answer.Granted plan) v = (i : FinishRecord) × (v ≡ Granted i) × IsPlanOf s sizes plan i
IsVerdict s sizes (answer.Empty lo hi) v = v ≡ Empty lo.0 hi.0
IsVerdict s sizes (answer.Slots o) v = v ≡ Slots o.0
IsVerdict s sizes (answer.Records pending spawns) v = v ≡ Records pending spawns

-- for each ended try that the attempt stands for, with this interval of reads, it is the table machine's verdict
abbrev pub IsAnswer : Seen → Attempt → Interval → code.Verdict → Type 0
IsAnswer s a reads v =
    (o : Outcome) (t : Try MachineState) (sizes : Sizes) → a.stage ≡ stage.Ready o → IsEndedTry a o t
    → t.interval ≡ range_of reads → AreSizes s sizes
    → IsVerdict s sizes v (table_verdict sizes (tables_in s) s.others t.task t.interval (run_by t (told.outcome_of o)))

-- it is what the table machine looks at with this index and these other seats
pub record IsSeenIn (s : Seen) (x : Index) (seats : List (Seat MachineState)) : Type 0 where
  pub clock : x.clock ≡ s.clock
  pub number : x.number ≡ s.number
  pub next : x.next ≡ s.queue.next
  pub tasks : x.tasks ≡ s.queue.tasks
  pub others : views_in seats ≡ s.others
