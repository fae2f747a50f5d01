-- The words that lines stand for, or the first faulty line and its first cause. This project's own.
use Rattle.std.specs.Prelude.{ℕ, ◌+◌, ◌*◌, nat_lt, ℤ, pos, ◌-ℤ◌, Bool, false, List, [], ◌∷◌, ◌++◌, length, map, Option, Some, None, Result, Ok, Err, if◌then◌else◌}
use Rattle.nv_base.specs.declared.limits.TheConstants.{MAX_CODE}
use Rattle.nv_base.specs.Refusals.{at}
use Rattle.nv_base.specs.Results.{◌>>=◌}
use Rattle.rv_isa.specs.Fields.{unsigned}
use Rattle.rv_isa.specs.Words.{instruction_word}
use Rattle.rv_isa.specs.declared.instruction.Instr.{Instr}
use Rattle.rv_asm.specs.declared.cause.AsmCause.{AsmCause}
use Rattle.rv_asm.specs.declared.cause.AsmCause.TheVariants.{Twice, Label, Range, TooLong}
use Rattle.rv_asm.specs.Causes.{AsmError}
use Rattle.rv_asm.specs.declared.labels.Spot.{Spot}
use Rattle.rv_asm.specs.Numbers.{is_word}
use Rattle.rv_asm.specs.Fields.{with_value, fits}
use Rattle.rv_asm.specs.Operands as operands
use Rattle.rv_asm.specs.Operands.{Open, Value}
use Rattle.rv_asm.specs.Lines.{Body, Nothing, Instruction, Word, Load, Line, parsed}
use Rattle.rv_asm.specs.Loads.{loads}
use Rattle.rv_asm.specs.Labels.{Found, labels_of}

-- from the word at one place to that at another, in bytes
abbrev pub distance : ℕ → ℕ → ℤ
distance here there = pos (4 * there) -ℤ pos (4 * here)

abbrev pub offset_to : ℕ → Option Spot → Result ℤ AsmCause
offset_to here None = Err Label
offset_to here (Some s) = Ok (distance here s.place)

-- the word of an instruction with its value
abbrev pub valued : Instr → ℤ → Result (List ℕ) AsmCause
valued i z = if fits i z then Ok (instruction_word (with_value z i) ∷ []) else Err Range

abbrev pub instruction_words : Found → ℕ → Instr → Value → Result (List ℕ) AsmCause
instruction_words found here i operands.Absent = Ok (instruction_word i ∷ [])
instruction_words found here i (operands.Number z) = valued i z
instruction_words found here i (operands.Label name) = offset_to here (found name) >>= valued i

-- the words of a body at a place
unfoldable pub body_words : Found → ℕ → Body → Result (List ℕ) AsmCause
body_words found here Nothing = Ok []
body_words found here (Instruction o) = instruction_words found here o.instr o.value
body_words found here (Word z) = if is_word z then Ok (unsigned 32 z ∷ []) else Err Range
body_words found here (Load rd z) = if is_word z then Ok (map instruction_word (loads rd (unsigned 32 z))) else Err Range

-- the spot is on an earlier line
abbrev pub is_before : Option Spot → ℕ → Bool
is_before None n = false
is_before (Some s) n = nat_lt s.line n

abbrev pub label_taken : Found → ℕ → Option (List ℕ) → Result (Unit {0}) AsmCause
label_taken found n None = Ok tt
label_taken found n (Some label) = if is_before (found label) n then Err Twice else Ok tt

-- at most 1,024 words
abbrev pub fitting : List ℕ → List ℕ → Result (List ℕ) AsmCause
fitting words more = if nat_lt MAX_CODE (length words + length more) then Err TooLong else Ok (words ++ more)

-- the words after line n, or its first cause
unfoldable pub line_after : Found → ℕ → List ℕ → Line → Result (List ℕ) AsmCause
line_after found n words l = do
  _ ← label_taken found n l.label
  body ← l.body
  more ← body_words found (length words) body
  fitting words more

-- the words after lines, from line n on, or the first faulty line
unfoldable pub lines_after : Found → ℕ → List ℕ → List Line → Result (List ℕ) AsmError
lines_after found n words [] = Ok words
lines_after found n words (l ∷ ls) = at n (line_after found n words l) >>= λ more. lines_after found (n + 1) more ls

abbrev pub encoded : List Line → Result (List ℕ) AsmError
encoded ls = lines_after (labels_of ls) 1 [] ls

-- what the lines of a text are assembled to
abbrev pub assembled : List (List ℕ) → Result (List ℕ) AsmError
assembled lines = encoded (map parsed lines)
