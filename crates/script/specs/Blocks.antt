-- What a block makes of the lines so far: a program. This project's own.
use Rattle.std.specs.Prelude.{ℕ, ◌+◌, ◌*◌, ◌==◌, nat_lt, not, is_some, List, [], ◌∷◌, ◌++◌, length, map, position, Option, Some, None, Result, Ok, Err, if◌then◌else◌}
use Rattle.nv_base.specs.declared.limits.TheConstants.{MAX_CODE, MAX_FUEL, MAX_PROGRAMS}
use Rattle.plain_text.specs.Words.{is_plain, line_words}
use Rattle.plain_text.specs.BadLines.{is_bad}
use Rattle.plain_text.specs.Numbers.{value_in}
use Rattle.rv_asm.specs.Assembly.{assembled}
use Rattle.rv_asm.specs.Causes.{AsmError}
use Rattle.script.specs.declared.refusals.ScriptCause.{ScriptCause}
use Rattle.script.specs.declared.refusals.ScriptCause.TheVariants.{Byte, Word, Count, Number, Code, Many, End}
use Rattle.script.specs.Causes.{ScriptError}
use Rattle.script.specs.declared.keyword.BlockKind.{BlockKind}
use Rattle.script.specs.declared.keyword.BlockKind.TheVariants as blocks
use Rattle.script.specs.declared.keyword.Stage.TheVariants as stages
use Rattle.nv_base.specs.Results.{◌>>=◌}
use Rattle.script.specs.Results.{each}
use Rattle.nv_base.specs.Refusals.{at}
use Rattle.script.specs.Words.{number, two, new_name, allowed}
use Rattle.script.specs.Parts.{Parts}

pub record Header : Type 0 where
  pub name : List ℕ
  pub fuel : ℕ

-- `program NAME FUEL` or `code NAME FUEL`
unfoldable pub header_of : Parts → List (List ℕ) → Result Header ScriptCause
header_of p words = do
  stage ← allowed p.last stages.Program
  word ← two words
  name ← new_name (λ program. program.name) p.set.programs word.0
  fuel ← number 1 MAX_FUEL word.1
  if length p.set.programs == MAX_PROGRAMS then Err Many else Ok (record { name = name; fuel = fuel })

-- exactly 8 hexadecimal digits
abbrev pub hex_word : List ℕ → Option ℕ
hex_word word = if length word == 8 then value_in 16 8 word else None

abbrev pub or_number : Option ℕ → Result ℕ ScriptCause
or_number None = Err Number
or_number (Some n) = Ok n

abbrev pub code_word : List ℕ → Result ℕ ScriptCause
code_word word = or_number (hex_word word)

-- the code so far, with the words of a line behind it
abbrev pub with_words : List ℕ → List (List ℕ) → Result (List ℕ) ScriptCause
with_words code words = do
  more ← each code_word words
  Ok (code ++ more)

-- a line of a `code` block, behind the code so far
unfoldable pub code_after : List ℕ → List (List ℕ) → Result (List ℕ) ScriptCause
code_after code [] = Ok code
code_after code (first ∷ words) =
    if not (is_some (hex_word first)) then Err Word
    else do
      all ← with_words code (first ∷ words)
      if nat_lt MAX_CODE (length all) then Err Many else Ok all

abbrev pub code_line_after : List ℕ → List ℕ → Result (List ℕ) ScriptCause
code_line_after code line = if is_plain line then code_after code (line_words line) else Err Byte

-- the lines of a `code` block, from line n on
unfoldable pub code_lines_after : ℕ → List ℕ → List (List ℕ) → Result (List ℕ) ScriptError
code_lines_after n code [] = Ok code
code_lines_after n code (line ∷ lines) = do
  more ← at n (code_line_after code line)
  code_lines_after (n + 1) more lines

-- a line with a byte that is not allowed is empty for the assembler
abbrev pub or_empty : List ℕ → List ℕ
or_empty line = if is_plain line then line else []

abbrev pub fault_at : ℕ → AsmError → ScriptError
fault_at n e = record { line = n + e.line; cause = Code e.cause }

abbrev pub bad_at : ℕ → ℕ → ScriptError
bad_at n place = record { line = n + 1 + place; cause = Byte }

-- The first line is n, and the assembler counts its lines from 1. Of the first line with a byte that is not allowed
-- and the assembler's first fault the earlier one counts.
abbrev pub earlier : ℕ → Option ℕ → Result (List ℕ) AsmError → Result (List ℕ) ScriptError
earlier n None (Ok code) = Ok code
earlier n None (Err e) = Err (fault_at n e)
earlier n (Some place) (Ok code) = Err (bad_at n place)
earlier n (Some place) (Err e) = if nat_lt e.line (place + 1) then Err (fault_at n e) else Err (bad_at n place)

-- the lines of a `program` block, whose first line is n
abbrev pub program_code : ℕ → List (List ℕ) → Result (List ℕ) ScriptError
program_code n body = earlier n (position is_bad body) (assembled (map or_empty body))

abbrev pub code_of : BlockKind → ℕ → List (List ℕ) → Result (List ℕ) ScriptError
code_of blocks.Program n body = program_code n body
code_of blocks.Code n body = code_lines_after (n + 1) [] body

-- the `end` line stands, and has no other word
abbrev pub is_ended : Option (List ℕ) → Result (List ℕ) ScriptCause
is_ended None = Err End
is_ended (Some line) =
    if not (is_plain line) then Err Byte
    else if length (line_words line) == 1 then Ok line
    else Err Count

abbrev pub with_program : Parts → Header → List ℕ → Parts
with_program p header code = record p {
  last = Some stages.Program;
  set = record p.set { programs = p.set.programs ++ record { name = header.name; fuel = header.fuel; code = code } ∷ [] };
}

-- the program, where its code fits the private memory
unfoldable pub program_after : Parts → Header → List ℕ → Option (List ℕ) → Result Parts ScriptCause
program_after p header code end = do
  line ← is_ended end
  if nat_lt p.set.memory (4 * length code) then Err Many else Ok (with_program p header code)

-- a block whose first line is n
unfoldable pub block_after : ℕ → Parts → BlockKind → List (List ℕ) → List (List ℕ) → Option (List ℕ) → Result Parts ScriptError
block_after n p kind words body end = do
  header ← at n (header_of p words)
  code ← code_of kind n body
  at (n + 1 + length body) (program_after p header code end)
