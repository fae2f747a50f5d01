-- The state of a machine, and what one step makes of it (this project's own, over the RISC-V
-- unprivileged ISA manual, section 2.1 "Programmers' Model for Base Integer ISA").
use Rattle.std.specs.Prelude.{ℕ, List}
use Rattle.nv_base.specs.declared.causes.TrapCause.{TrapCause}
use Rattle.rv_core.specs.declared.services.Service.{Service}

-- 32 registers, the address of the next instruction, a private memory of bytes, the instructions
-- counted so far, and how many may be counted
pub record MachineState : Type 0 where
  pub registers : List ℕ
  pub pc : ℕ
  pub memory : List ℕ
  pub count : ℕ
  pub fuel : ℕ

-- A step leads to a next state, to a call of a service, or to a trap.
pub data StepResult : Type 0 where
  Next : MachineState → StepResult
  Calls : MachineState → Service → StepResult
  Traps : MachineState → TrapCause → StepResult
