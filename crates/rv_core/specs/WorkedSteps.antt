-- Single steps, worked out by hand, the edges among them (the RISC-V unprivileged ISA manual, chapter 2: shifts
-- take the low five bits of their amount, JALR clears the lowest bit of its target, a misaligned target is told at
-- the branch and only where it is taken, SLTIU compares with its sign-extended immediate as unsigned, and x0 is zero).
use Rattle.std.specs.Prelude.{ℕ, ◌+◌, List, [], ◌∷◌, ◌≡◌, map, replicate, slice_set}
use Rattle.rv_core.specs.State.{MachineState, StepResult, Next, Traps}
use Rattle.rv_core.specs.Bytes.{bytes_of}
use Rattle.rv_core.specs.Stepping.{step_of}
use Rattle.nv_base.specs.declared.causes.TrapCause.{TrapCause}
use Rattle.nv_base.specs.declared.causes.TrapCause.TheVariants.{Jump}

-- what a step is to do, and to nothing else: a register gets a value and the next instruction is at an address,
-- the next instruction alone, or a trap
pub data Effect : Type 0 where
  Sets : (register value pc : ℕ) → Effect
  Goes : (pc : ℕ) → Effect
  Stops : TrapCause → Effect

-- an instruction's word, what t0 (x5) and t1 (x6) hold, and what the step does
pub record Row : Type 0 where
  pub word : ℕ
  pub t0 : ℕ
  pub t1 : ℕ
  pub effect : Effect

abbrev pub row : ℕ → ℕ → ℕ → Effect → Row
row word t0 t1 effect = record { word = word; t0 = t0; t1 = t1; effect = effect }

-- the machine before the step: the word at address 0, and room for one instruction
abbrev pub before : Row → MachineState
before r = record { registers = slice_set (slice_set (replicate 32 0) 5 r.t0) 6 r.t1; pc = 0; memory = bytes_of r.word; count = 0; fuel = 1 }

-- what an effect makes of a state, in which the instruction is counted
abbrev pub done : MachineState → Effect → StepResult
done s (Sets register value pc) = Next (record s { registers = slice_set s.registers register value; pc = pc; count = s.count + 1 })
done s (Goes pc) = Next (record s { pc = pc; count = s.count + 1 })
done s (Stops cause) = Traps (record s { count = s.count + 1 }) cause

abbrev pub rows : List Row
rows =
    row 0x4062d3b3 0x80000000 36 (Sets 7 0xF8000000 4) ∷  -- sra t2, t0, t1: by 36, that is by 4
    row 0x0062d3b3 0x80000000 36 (Sets 7 0x08000000 4) ∷  -- srl t2, t0, t1
    row 0x006293b3 1 36 (Sets 7 16 4) ∷  -- sll t2, t0, t1
    row 0x000283e7 8 0 (Sets 7 4 8) ∷  -- jalr t2, 0(t0): to 8
    row 0x000283e7 9 0 (Sets 7 4 8) ∷  -- jalr t2, 0(t0): to 9 without its lowest bit
    row 0x000283e7 11 0 (Stops Jump) ∷  -- jalr t2, 0(t0): to 11 without its lowest bit, which is no multiple of 4
    row 0x00629363 3 3 (Goes 4) ∷  -- bne t0, t1, 6: not taken, so its target is nowhere
    row 0x00628363 3 3 (Stops Jump) ∷  -- beq t0, t1, 6: taken
    row 0x00628463 3 3 (Goes 8) ∷  -- beq t0, t1, 8: taken
    row 0xfff2b393 5 0 (Sets 7 1 4) ∷  -- sltiu t2, t0, -1: 5 is below 2 ^ 32 - 1
    row 0xfff2b393 0xFFFFFFFF 0 (Sets 7 0 4) ∷  -- sltiu t2, t0, -1: no word is below itself
    row 0x00128013 5 0 (Goes 4) ∷  -- addi zero, t0, 1: the write is dropped
    row 0x00000393 5 0 (Sets 7 0 4) ∷  -- addi t2, zero, 0: reads zero
    []

-- each row's effect is that of its step
abbrev pub AreStepped : Type 0
AreStepped = map (λ r. step_of (before r)) rows ≡ map (λ r. done (before r) r.effect) rows
