-- One step of a machine, and what the code answers for it (this project's own; the order of the tests is
-- part of the rule: fuel, fetch, illegal, and then those of the instruction).
use Rattle.std.specs.Prelude.{ℕ, zero, suc, ◌≡◌, ◌+◌, length, Option, Some, None, nat_le, if◌then◌else◌}
use Rattle.rv_core.specs.State.{MachineState, StepResult, Next, Calls, Traps}
use Rattle.rv_core.specs.Bytes.{word_at}
use Rattle.rv_core.specs.Execution.{calls, executed, service_of}
use Rattle.nv_base.specs.declared.causes.TrapCause.TheVariants as trap
use Rattle.rv_isa.specs.Table.{instruction_of}
use Rattle.rv_isa.specs.declared.instruction.Instr.{Instr}
use Rattle.rv_core.specs.declared.services.Fate.{Fate}
use Rattle.rv_core.specs.declared.services.Fate.TheVariants as fate
use Rattle.rv_core.specs.declared.services.Step.{Step}
use Rattle.rv_core.specs.declared.services.Step.TheVariants as step

abbrev pub executed_or_illegal : MachineState → Option Instr → StepResult
executed_or_illegal s None = Traps s trap.Illegal
executed_or_illegal s (Some i) = executed s i

abbrev pub fetched : MachineState → StepResult
fetched s =
    if nat_le (s.pc + 4) (length s.memory)
    then executed_or_illegal s (instruction_of (word_at s.memory s.pc))
    else Traps s trap.Fetch

-- an instruction that is fetched is counted, also one that traps
abbrev pub step_of : MachineState → StepResult
step_of s = if nat_le s.fuel s.count then Traps s trap.Fuel else fetched (record s { count = s.count + 1 })

-- at most that many steps, up to a call or a trap
abbrev pub after : StepResult → (MachineState → StepResult) → StepResult
after (Next s) next = next s
after (Calls s service) next = Calls s service
after (Traps s cause) next = Traps s cause

abbrev pub runs : ℕ → MachineState → StepResult
runs zero s = Next s
runs (suc n) s = after (step_of s) (runs n)

-- what the code answers, beside the state that it leaves
abbrev pub answer : Step → MachineState → StepResult
answer step.Went s = Next s
answer (step.Call service) s = Calls s service
answer (step.Trap cause) s = Traps s cause

-- the same, by how an instruction ends
abbrev pub fated : Fate → MachineState → StepResult
fated fate.Went s = Next s
fated fate.Calls s = calls s (service_of s)
fated (fate.Stops cause) s = Traps s cause

-- the instruction is not done
abbrev pub IsStopped : Fate → Type 0
IsStopped fate.Went = ⊥
IsStopped fate.Calls = Unit {0}
IsStopped (fate.Stops cause) = Unit {0}

-- it calls
abbrev pub HasCalled : Fate → Type 0
HasCalled fate.Went = ⊥
HasCalled fate.Calls = Unit {0}
HasCalled (fate.Stops cause) = ⊥

abbrev pub IsCall : Step → Type 0
IsCall step.Went = ⊥
IsCall (step.Call service) = Unit {0}
IsCall (step.Trap cause) = ⊥

-- what no instruction changes
abbrev pub Keeps : MachineState → MachineState → Type 0
Keeps s t = (t.count ≡ s.count) × (t.fuel ≡ s.fuel) × (length t.memory ≡ length s.memory)
