-- The commands, by their words. This project's own.
use Rattle.std.specs.Prelude.{ℕ, ◌-◌, ◌≤◌, ◌^◌, List, [], ◌∷◌, Option, Some, None, Result, Ok, Err, if◌then◌else◌, nat_eq, codes}
use Rattle.std.specs.Cmp.Lexicographic.{pointwise}
use Rattle.plain_text.specs.Numbers.{number_in}
use Rattle.plain_text.specs.declared.numbers.NumberFault.{NumberFault}
use Rattle.sim_run.specs.declared.command.Command.{Command}
use Rattle.sim_run.specs.declared.command.TheConstants.{MOST_SERIAL}
use Rattle.sim_run.specs.declared.command.Command.TheVariants.{Run, Resume, Asm, Dis, Pack, Audit, Serial, Make}

-- the command with this name
abbrev pub named : List ℕ → Option Command
named word =
    if pointwise nat_eq word (codes "run") then Some Run
    else if pointwise nat_eq word (codes "resume") then Some Resume
    else if pointwise nat_eq word (codes "asm") then Some Asm
    else if pointwise nat_eq word (codes "dis") then Some Dis
    else if pointwise nat_eq word (codes "pack") then Some Pack
    else if pointwise nat_eq word (codes "audit") then Some Audit
    else None

-- a command of a number, where the number stands and is within its limits
abbrev pub of_number : (ℕ → Command) → Result ℕ NumberFault → Option Command
of_number command (Ok n) = Some (command n)
of_number command (Err fault) = None

-- the command with this name, and a number of 1 to 10 digits
abbrev pub numbered : List ℕ → List ℕ → Option Command
numbered word digits =
    if pointwise nat_eq word (codes "make") then of_number (λ n. Make n) (number_in 0 (2 ^ 32 - 1) digits)
    else if pointwise nat_eq word (codes "serial") then of_number (λ n. Serial n) (number_in 1 MOST_SERIAL digits)
    else None

-- its number is within the limits
abbrev pub IsWithin : Command → Type 0
IsWithin (Serial count) = count ≤ MOST_SERIAL
IsWithin _ = Unit {0}

-- a command is one word alone, or one word and a number
abbrev pub command_of : List (List ℕ) → Option Command
command_of (word ∷ []) = named word
command_of (word ∷ digits ∷ []) = numbered word digits
command_of _ = None
