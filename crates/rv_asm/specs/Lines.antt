-- What a line says, before labels are known. This project's own.
use Rattle.std.specs.Prelude.{ℕ, ◌==◌, ℤ, List, Option, Some, None, Result, Ok, Err, if◌then◌else◌, nat_eq, codes}
use Rattle.std.specs.Cmp.Lexicographic.{pointwise}
use Rattle.std.specs.List.{before_first}
use Rattle.std.specs.Option.{ok_or}
use Rattle.plain_text.specs.Words.{word_and_rest}
use Rattle.plain_text.specs.Names.{is_name}
use Rattle.rv_isa.specs.declared.syntax.Operand.{Operand}
use Rattle.rv_isa.specs.declared.instruction.Instr.{Instr}
use Rattle.rv_isa.specs.declared.instruction.Reg.{Reg}
use Rattle.rv_asm.specs.declared.cause.AsmCause.{AsmCause}
use Rattle.rv_asm.specs.declared.cause.AsmCause.TheVariants.{Mnemonic, Operand as BadOperand}
use Rattle.rv_asm.specs.Numbers.{number_of}
use Rattle.rv_asm.specs.Registers.{register_of}
use Rattle.rv_asm.specs.Operands.{◌>>=◌, Absent, Open, opened, before_end, operand_in, filled, pieces_of, two_from}
use Rattle.rv_asm.specs.Forms.{form_named}

pub data Body : Type 0 where
  Nothing : Body
  Instruction : (o : Open) → Body
  -- `.word`
  Word : (z : ℤ) → Body
  -- `li`
  Load : (rd : Reg) (z : ℤ) → Body

pub record Line : Type 0 where
  pub label : Option (List ℕ)
  pub body : Result Body AsmCause

abbrev pub instruction_in : List Operand → Instr → List ℕ → Option Body
instruction_in operands template text = do
  o ← filled operands (pieces_of text) (opened template Absent)
  Some (Instruction o)

abbrev pub word_in : List ℕ → Option Body
word_in text = do
  word ← operand_in text
  z ← number_of word
  Some (Word z)

abbrev pub load_in : List ℕ → Option Body
load_in text = do
  w ← two_from (pieces_of text)
  rd ← register_of w.0
  z ← number_of w.1
  Some (Load rd z)

abbrev pub by_form : Option (List Operand × Instr) → List ℕ → Result Body AsmCause
by_form None text = Err Mnemonic
by_form (Some form) text = ok_or (instruction_in form.0 form.1 text) BadOperand

-- a mnemonic with what stands after it
abbrev pub body_of : List ℕ → List ℕ → Result Body AsmCause
body_of mnemonic text =
    if pointwise nat_eq mnemonic (codes "li") then ok_or (load_in text) BadOperand
    else if pointwise nat_eq mnemonic (codes ".word") then ok_or (word_in text) BadOperand
    else by_form (form_named mnemonic) text

abbrev pub by_words : Option (List ℕ × List ℕ) → Result Body AsmCause
by_words None = Ok Nothing
by_words (Some w) = body_of w.0 w.1

abbrev pub body_in : List ℕ → Result Body AsmCause
body_in text = by_words (word_and_rest text)

abbrev pub line : Option (List ℕ) → Result Body AsmCause → Line
line label body = record { label = label; body = body }

abbrev pub labelled : List ℕ → List ℕ → Line
labelled name rest = if is_name name then line (Some name) (body_in rest) else line None (Err Mnemonic)

-- a label is a word of its own that ends in a colon
abbrev pub by_label : Option (List ℕ) → List ℕ → List ℕ → Line
by_label None text rest = line None (body_in text)
by_label (Some name) text rest = labelled name rest

abbrev pub by_first_word : List ℕ → Option (List ℕ × List ℕ) → Line
by_first_word text None = line None (Ok Nothing)
by_first_word text (Some w) = by_label (before_end 58 w.0) text w.1

-- a line without its comment
abbrev pub parsed : List ℕ → Line
parsed bytes = let text = before_first (λ b. b == 35) bytes in by_first_word text (word_and_rest text)
