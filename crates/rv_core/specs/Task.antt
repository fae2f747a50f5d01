-- How a task begins, how it goes on behind a call, and the places of words that a call names (this
-- project's own).
use Rattle.std.specs.Prelude.{ℕ, ◌≡◌, ◌≤◌, ◌+◌, ◌-◌, ◌*◌, ◌%◌, ◌==◌, ◌++◌, flat_map, replicate, List, length, Option, Some, None, nat_le, slice_set, if◌then◌else◌}
use Rattle.rv_core.specs.State.{MachineState, StepResult}
use Rattle.rv_core.specs.Bytes.{bytes_of}
use Rattle.rv_core.specs.Operations.{with_register}
use Rattle.rv_core.specs.Execution.{goes_on}
use Rattle.nv_base.specs.declared.causes.TrapCause.{TrapCause}
use Rattle.nv_base.specs.declared.causes.TrapCause.TheVariants as trap

-- a machine before its first task
abbrev pub blank : ℕ → MachineState
blank bytes = record { registers = replicate 32 0; pc = 0; memory = replicate bytes 0; count = 0; fuel = 0 }

-- the words of the code from 0 on, and zeros behind them
abbrev pub loaded : List ℕ → ℕ → List ℕ
loaded code bytes = flat_map bytes_of code ++ replicate (bytes - 4 * length code) 0

-- the state in which a task begins: sp is the size of memory, a0 the argument
abbrev pub first_state : List ℕ → ℕ → ℕ → ℕ → MachineState
first_state code arg fuel bytes =
    record { registers = slice_set (slice_set (replicate 32 0) 2 bytes) 10 arg; pc = 0; memory = loaded code bytes; count = 0; fuel = fuel }

-- what goes on behind a call, with a0 changed where a value is given
abbrev pub resumed : MachineState → Option ℕ → StepResult
resumed s None = goes_on s
resumed s (Some value) = goes_on (with_register s 10 value)

-- the first test of a place of some words that fails
abbrev pub place_refusal : MachineState → ℕ → ℕ → Option TrapCause
place_refusal s at words =
    if at % 4 == 0
    then (if nat_le (at + 4 * words) (length s.memory) then None else Some trap.CallRange)
    else Some trap.CallAlign

-- so many words fit at the address
abbrev pub IsPlace : MachineState → ℕ → ℕ → Type 0
IsPlace s at words = (at % 4 ≡ 0) × (at + 4 * words ≤ length s.memory)
