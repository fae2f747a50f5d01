-- The operands of a line, and how they fill an instruction. This project's own.
use Rattle.std.specs.Prelude.{ℕ, ◌==◌, ◌-◌, ℤ, Bool, List, [], ◌∷◌, length, take, slice_index, Option, Some, None, option_map, if◌then◌else◌}
use Rattle.std.specs.List.{slice_split, before_first, after_first}
use Rattle.plain_text.specs.Words.{words_in}
use Rattle.plain_text.specs.Names.{is_name}
use Rattle.rv_isa.specs.declared.syntax.Operand.{Operand}
use Rattle.rv_isa.specs.declared.syntax.Operand.TheVariants.{Rd, Rs1, Rs2, Immediate, Target, Memory}
use Rattle.rv_isa.specs.declared.instruction.Reg.{Reg}
use Rattle.rv_isa.specs.declared.instruction.Instr.{Instr}
use Rattle.rv_asm.specs.Numbers.{number_of}
use Rattle.rv_asm.specs.Registers.{register_of}
use Rattle.rv_asm.specs.Fields.{with_rd, with_rs1, with_rs2}

infixl 10 ◌>>=◌
abbrev pub ◌>>=◌ : {A B : Type 0} → Option A → (A → Option B) → Option B
None >>= f = None
(Some x) >>= f = f x

-- what is to be put into an instruction: nothing, a number, or how far away a label is
pub data Value : Type 0 where
  Absent : Value
  Number : (z : ℤ) → Value
  Label : (name : List ℕ) → Value

-- an instruction, and the value that is still to be put into it
pub record Open : Type 0 where
  pub instr : Instr
  pub value : Value

abbrev pub opened : Instr → Value → Open
opened instr value = record { instr = instr; value = value }

abbrev pub comma : ℕ → Bool
comma b = b == 44

abbrev pub parenthesis : ℕ → Bool
parenthesis b = b == 40

-- what stands before a byte at the end
abbrev pub before_end : ℕ → List ℕ → Option (List ℕ)
before_end b word = if slice_index word (length word - 1) == b then Some (take (length word - 1) word) else None

-- a name, or a number
abbrev pub target_of : List ℕ → Option Value
target_of word = if is_name word then Some (Label word) else option_map Number (number_of word)

-- a number, and a register in parentheses
unfoldable pub address_of : List ℕ → Option (ℤ × Reg)
address_of word = do
  name ← before_end 41 (after_first parenthesis word)
  z ← number_of (before_first parenthesis word)
  r ← register_of name
  Some (z, r)

-- one operand filled in
unfoldable pub fill : Operand → List ℕ → Open → Option Open
fill Rd word o = option_map (λ r. opened (with_rd r o.instr) o.value) (register_of word)
fill Rs1 word o = option_map (λ r. opened (with_rs1 r o.instr) o.value) (register_of word)
fill Rs2 word o = option_map (λ r. opened (with_rs2 r o.instr) o.value) (register_of word)
fill Immediate word o = option_map (λ z. opened o.instr (Number z)) (number_of word)
fill Target word o = option_map (λ v. opened o.instr v) (target_of word)
fill Memory word o = option_map (λ a. opened (with_rs1 a.1 o.instr) (Number a.0)) (address_of word)

-- the one word there is
abbrev only : List (List ℕ) → Option (List ℕ)
only (word ∷ []) = Some word
only _ = None

abbrev pub operand_in : List ℕ → Option (List ℕ)
operand_in piece = only (words_in piece)

-- an operand from each piece, as many as there are operands
unfoldable pub filled : List Operand → List (List ℕ) → Open → Option Open
filled [] [] o = Some o
filled [] (piece ∷ pieces) o = None
filled (operand ∷ operands) [] o = None
filled (operand ∷ operands) (piece ∷ pieces) o = do
  word ← operand_in piece
  next ← fill operand word o
  filled operands pieces next

-- what stands between commas
abbrev pub pieces_left : Option (List ℕ) → List (List ℕ)
pieces_left None = []
pieces_left (Some text) = slice_split comma text

-- a text, where it has a word
abbrev pub worded : List ℕ → Option (List ℕ)
worded text = if length (words_in text) == 0 then None else Some text

abbrev pub pieces_of : List ℕ → List (List ℕ)
pieces_of text = pieces_left (worded text)

-- the operands of two pieces
abbrev pub two_from : List (List ℕ) → Option (List ℕ × List ℕ)
two_from (first ∷ second ∷ []) = do
  a ← operand_in first
  b ← operand_in second
  Some (a, b)
two_from _ = None
