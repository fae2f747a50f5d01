-- Worked runs of one task over one object, on the RV32IM machine itself. This project's own. The task reads x, adds its argument and writes x.
use Rattle.std.specs.Prelude.{◌≡◌, ℕ, List, [], ◌∷◌, replicate}
use Rattle.kernel_model.specs.Effects.{Exit, Trap}
use Rattle.kernel_model.specs.Items.{Entry}
use Rattle.kernel_model.specs.Replay.{DeviceState}
use Rattle.kernel_model.specs.Turns.{Line, Start, Finish, Found}
use Rattle.kernel_model.specs.Events.{CoreStep, Event}
use Rattle.kernel_model.specs.WorkedTasks.{shown}
use Rattle.set_model.specs.Sets.{TaskSet}
use Rattle.headline.specs.Runs.{all_lines, state_read}
use Rattle.sim_run.specs.Origins.{fresh_run}
use Rattle.sim_run.specs.Set.{set_with}

-- addi s0, a0, 0; addi a0, zero, 0; addi a1, zero, 512; addi a7, zero, 1; ecall; lw t0, 512(zero); add t0, t0, s0; sw t0, 512(zero); addi a7, zero, 2; ecall; addi a7, zero, 4; ecall
abbrev pub adds : List ℕ
adds =
    0x00050413 ∷ 0x00000513 ∷ 0x20000593 ∷ 0x00100893 ∷ 0x00000073 ∷ 0x20002283 ∷ 0x008282b3 ∷ 0x20502023 ∷ 0x00200893 ∷ 0x00000073 ∷ 0x00400893 ∷ 0x00000073 ∷ []

abbrev pub worked_set : TaskSet
worked_set = set_with 5 adds 7

abbrev pub steps : ℕ → List Event
steps n = replicate n (CoreStep 0)

abbrev pub finish : Entry
finish = record { number = 1; task = 1; point = 1; first = 2; outcome = Exit 0 }

abbrev pub before : DeviceState
before = record { objects = (5 ∷ []) ∷ []; tasks = record { id = 1; program = 0; arg = 7 } ∷ []; clock = 0; number = 0; next = 2 }

abbrev pub behind : DeviceState
behind = record { objects = (12 ∷ []) ∷ []; tasks = []; clock = 1; number = 1; next = 2 }

-- what a run of n steps prints, and the state it leaves
pub record Runs (set : TaskSet) (n : ℕ) (lines : List Line) (state : DeviceState) : Type 0 where
  pub printed : shown (all_lines (fresh_run set) (steps n)) ≡ lines
  pub left : state_read (fresh_run set) (steps n) ≡ state

-- 31 steps are enough; at the 30th the finish is durable, and at the 31st it is told
abbrev pub SmallestRuns : Type 0
SmallestRuns =
    Runs worked_set 40 (Start 0 1 0 ∷ Finish finish ∷ []) behind
    × Runs worked_set 31 (Start 0 1 0 ∷ Finish finish ∷ []) behind
    × Runs worked_set 30 (Start 0 1 0 ∷ Found finish ∷ []) behind
    × Runs worked_set 29 (Start 0 1 0 ∷ []) before

-- a word that is no instruction traps at once, and leaves the object as it was
abbrev pub TrappedRun : Type 0
TrappedRun =
    Runs (set_with 5 (0 ∷ []) 7) 40 (Start 0 1 0 ∷ Finish (record { number = 1; task = 1; point = 0; first = 2; outcome = Trap 1 }) ∷ [])
    (record { objects = (5 ∷ []) ∷ []; tasks = []; clock = 0; number = 1; next = 2 })
