-- A program of 12 instructions, worked out by hand (the words are those of an assembler).
use Rattle.std.specs.Prelude.{ℕ, List, [], ◌∷◌, ◌≡◌}
use Rattle.rv_core.specs.State.{StepResult, Next, Calls, Traps}
use Rattle.rv_core.specs.Stepping.{runs}
use Rattle.rv_core.specs.Task.{first_state}
use Rattle.rv_core.specs.declared.services.Service.TheVariants.{Finish}

-- computes 2 * (5 + 7) - 3 and adds its argument, by way of memory and the stack
abbrev pub code : List ℕ
code =
    0x00500293 ∷  -- addi t0, zero, 5
    0x00700313 ∷  -- addi t1, zero, 7
    0x006283b3 ∷  -- add t2, t0, t1
    0x20702023 ∷  -- sw t2, 512(zero)
    0x20002403 ∷  -- lw s0, 512(zero)
    0x008404b3 ∷  -- add s1, s0, s0
    0xffd48493 ∷  -- addi s1, s1, -3
    0xfe912e23 ∷  -- sw s1, -4(sp)
    0xffc12e03 ∷  -- lw t3, -4(sp)
    0x00ae0533 ∷  -- add a0, t3, a0
    0x00400893 ∷  -- addi a7, zero, 4
    0x00000073 ∷  -- ecall
    []

-- what a run came to, and after how many instructions
abbrev pub ends : StepResult → ℕ → ℕ → Type 0
ends (Next s) n exit = ⊥
ends (Calls s (Finish code)) n exit = (s.count ≡ n) × (code ≡ exit)
ends (Calls s _) n exit = ⊥
ends (Traps s cause) n exit = ⊥

-- begun with 100, the code ends by exit 121 at its 12th instruction
abbrev pub Ends : Type 0
Ends = ends (runs 12 (first_state code 100 1000 1024)) 12 121
