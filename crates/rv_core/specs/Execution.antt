-- What each instruction makes of the state (the RISC-V unprivileged ISA manual, chapter 2; the traps and
-- the services are this project's own).
use Rattle.std.specs.Prelude.{ℕ, ◌+◌, ◌*◌, ◌/◌, ◌%◌, ◌^◌, ◌==◌, length, nat_le, if◌then◌else◌, ℤ, Option, Some, None}
use Rattle.std.specs.Int.{cast_unsigned, w32}
use Rattle.rv_core.specs.State.{MachineState, StepResult, Next, Calls, Traps}
use Rattle.rv_core.specs.Operations.{register, with_register, sum_of, place_of, computed, with_immediate, is_taken, load_size, store_size, read_at, put_at}
use Rattle.nv_base.specs.declared.causes.TrapCause.TheVariants as trap
use Rattle.rv_core.specs.declared.services.Service.{Service}
use Rattle.rv_core.specs.declared.services.Service.TheVariants.{Read, Write, Spawn, Finish, ReadPart, WritePart}
use Rattle.rv_isa.specs.declared.instruction.Reg.{Reg}
use Rattle.rv_isa.specs.declared.instruction.BranchOp.{BranchOp}
use Rattle.rv_isa.specs.declared.instruction.LoadOp.{LoadOp}
use Rattle.rv_isa.specs.declared.instruction.StoreOp.{StoreOp}
use Rattle.rv_isa.specs.declared.instruction.Instr.{Instr}
use Rattle.rv_isa.specs.declared.instruction.Instr.TheVariants.{Lui, Auipc, Jal, Jalr, Branch, Load, Store, OpImm, Op, Fence, Ecall, Ebreak}

-- the next instruction is the one behind this
abbrev pub goes_on : MachineState → StepResult
goes_on s = Next (record s { pc = s.pc + 4 })

-- goes to the target with what t has; a target that is no multiple of 4 traps, and nothing is written
abbrev pub jumps : MachineState → ℕ → MachineState → StepResult
jumps s target t = if target % 4 == 0 then Next (record t { pc = target }) else Traps s trap.Jump

-- a branch that is not taken never traps
abbrev pub branches : MachineState → BranchOp → Reg → Reg → ℤ → StepResult
branches s op a b offset = if is_taken op (register s a.0) (register s b.0) then jumps s (place_of s.pc offset) s else goes_on s

-- the alignment to the size is tested first, then that all of it is in memory
abbrev pub loads : MachineState → LoadOp → ℕ → ℕ → StepResult
loads s op r at =
    if at % load_size op == 0
    then (if nat_le (at + load_size op) (length s.memory) then goes_on (with_register s r (read_at op s.memory at)) else Traps s trap.Load)
    else Traps s trap.LoadAlign

abbrev pub stores : MachineState → StoreOp → ℕ → ℕ → StepResult
stores s op at word =
    if at % store_size op == 0
    then (if nat_le (at + store_size op) (length s.memory) then goes_on (record s { memory = put_at op s.memory at word }) else Traps s trap.Store)
    else Traps s trap.StoreAlign

-- the service of this number, with its arguments
abbrev pub service_named : (number a0 a1 a2 a3 : ℕ) → Option Service
service_named number a0 a1 a2 a3 =
    if number == 1 then Some (Read a0 a1) else
    if number == 2 then Some (Write a0 a1) else
    if number == 3 then Some (Spawn a0 a1) else
    if number == 4 then Some (Finish a0) else
    if number == 5 then Some (ReadPart a0 a1 a2 a3) else
    if number == 6 then Some (WritePart a0 a1 a2 a3) else None

-- the service that a7 names, with the arguments that a0 to a3 hold
abbrev pub service_of : MachineState → Option Service
service_of s = service_named (register s 17) (register s 10) (register s 11) (register s 12) (register s 13)

-- the state waits on the call
abbrev pub calls : MachineState → Option Service → StepResult
calls s None = Traps s trap.Call
calls s (Some service) = Calls s service

unfoldable pub executed : MachineState → Instr → StepResult
executed s (Lui rd imm) = goes_on (with_register s rd.0 (imm * 2 ^ 12))
executed s (Auipc rd imm) = goes_on (with_register s rd.0 ((s.pc + imm * 2 ^ 12) % 2 ^ 32))
executed s (Jal rd offset) = jumps s (place_of s.pc offset) (with_register s rd.0 (s.pc + 4))
executed s (Jalr rd rs1 imm) = jumps s (sum_of s rs1 imm / 2 * 2) (with_register s rd.0 (s.pc + 4))
executed s (Branch op rs1 rs2 offset) = branches s op rs1 rs2 offset
executed s (Load op rd rs1 imm) = loads s op rd.0 (sum_of s rs1 imm)
executed s (Store op rs1 rs2 imm) = stores s op (sum_of s rs1 imm) (register s rs2.0)
executed s (OpImm op rd rs1 imm) = goes_on (with_register s rd.0 (computed (with_immediate op) (register s rs1.0) (cast_unsigned w32 imm)))
executed s (Op op rd rs1 rs2) = goes_on (with_register s rd.0 (computed op (register s rs1.0) (register s rs2.0)))
executed s (Fence rd rs1 bits) = goes_on s
executed s Ecall = calls s (service_of s)
executed s Ebreak = Traps s trap.Break
