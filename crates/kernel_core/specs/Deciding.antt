-- What a verdict is in the kernel over tables. This project's own.
use Rattle.std.specs.Prelude.{◌≡◌, ℕ, set}
use Rattle.rv_core.specs.State.{MachineState}
use Rattle.kernel_model.specs.Cores.{all_but}
use Rattle.kernel_model.specs.Effects.{Outcome}
use Rattle.kernel_model.specs.Verdicts as model
use Rattle.device_model.specs.Words.{Words}
use Rattle.table_machine.specs.Tables.{Try, Vacant, Waits, Tables, sizes_in}
use Rattle.table_machine.specs.Places.{run_by, verdict_in}
use Rattle.validate.specs.Answers.{IsVerdict, Seen}
use Rattle.validate.specs.declared.verdict.Verdict.{Verdict}
use Rattle.core_seats.specs.Others.{views_in}
use Rattle.kernel_core.specs.Commits.{setting_on}
use Rattle.kernel_core.specs.Keeping.{Keeps}
use Rattle.kernel_core.specs.Turns.{held_at}
use Rattle.kernel_core.specs.declared.kernel.Kernel.{Kernel}

-- what a verdict on core n's try looks at
abbrev pub seen_by : Kernel → ℕ → Seen
seen_by k n = record {
  chains = k.committed.versions;
  queue = k.committed.queue;
  clock = k.committed.state.clock.0;
  number = k.committed.state.number.0;
  others = views_in (all_but n k.seats.items);
}

-- the tables' verdict on it
abbrev pub verdict_at : Kernel → Words → Tables MachineState → ℕ → Try MachineState → Outcome → model.Verdict
verdict_at k words t n a outcome = verdict_in (sizes_in (setting_on k.set words)) t.index t.chains (all_but n t.seats) a (run_by a outcome)

-- the answer is the verdict of all tables that the kernel stands for
unfoldable pub IsVerdictOn : Kernel → ℕ → Verdict → Type 0
IsVerdictOn k n answer = (words : Words) (t : Tables MachineState) → Keeps k words t → (a : Try MachineState) (outcome : Outcome) → held_at t n ≡ Waits a outcome
    → IsVerdict (seen_by k n) (sizes_in (setting_on k.set words)) answer (verdict_at k words t n a outcome)

-- core n gives up the try of a task that has ended
unfoldable pub GivesUp : Kernel → ℕ → Kernel → (task : ℕ) → Type 0
GivesUp old n new task = (words : Words) (t : Tables MachineState) → Keeps old words t
    → Keeps new words (record t { seats = set t.seats n Vacant }) × ((a : Try MachineState) (outcome : Outcome) → held_at t n ≡ Waits a outcome → a.task ≡ task)
