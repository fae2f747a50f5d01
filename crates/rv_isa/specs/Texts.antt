-- An instruction as a line of assembler text: its mnemonic and its operands (this project's own, after
-- the RISC-V unprivileged ISA manual's assembly syntax).
use Rattle.std.specs.Prelude.{ℕ, zero, suc, ◌≡◌, ◌≤◌, ◌==◌, ◌/◌, ◌%◌, List, [], ◌∷◌, ◌++◌, length, take, ℤ, pos, Option, Some, None, codes, if◌then◌else◌}
use Rattle.std.specs.List.{flat_map}
use Rattle.std.specs.Fmt.{signed_decimal}
use Rattle.std.specs.Char.{digit_char}
use Rattle.rv_isa.specs.Names.{mnemonic_of, register_name}
use Rattle.rv_isa.specs.Table.{instruction_of}
use Rattle.rv_isa.specs.declared.syntax.Operand.{Operand}
use Rattle.rv_isa.specs.declared.syntax.Operand.TheVariants.{Rd, Rs1, Rs2, Immediate, Target, Memory}
use Rattle.rv_isa.specs.declared.instruction.Reg.{Reg}
use Rattle.rv_isa.specs.declared.instruction.Instr.{Instr}
use Rattle.rv_isa.specs.declared.instruction.Instr.TheVariants.{Lui, Auipc, Jal, Jalr, Branch, Load, Store, OpImm, Op, Fence, Ecall, Ebreak}

-- which fields the text writes, in order
abbrev pub operands_of : Instr → List Operand
operands_of (Lui rd imm) = Rd ∷ Immediate ∷ []
operands_of (Auipc rd imm) = Rd ∷ Immediate ∷ []
operands_of (Jal rd offset) = Rd ∷ Target ∷ []
operands_of (Jalr rd rs1 imm) = Rd ∷ Memory ∷ []
operands_of (Branch op rs1 rs2 offset) = Rs1 ∷ Rs2 ∷ Target ∷ []
operands_of (Load op rd rs1 imm) = Rd ∷ Memory ∷ []
operands_of (Store op rs1 rs2 imm) = Rs2 ∷ Memory ∷ []
operands_of (OpImm op rd rs1 imm) = Rd ∷ Rs1 ∷ Immediate ∷ []
operands_of (Op op rd rs1 rs2) = Rd ∷ Rs1 ∷ Rs2 ∷ []
operands_of (Fence rd rs1 bits) = []
operands_of Ecall = []
operands_of Ebreak = []

-- the fields; register 0, or the number 0, where the instruction has none
abbrev pub rd_of : Instr → Reg
rd_of (Lui rd imm) = rd
rd_of (Auipc rd imm) = rd
rd_of (Jal rd offset) = rd
rd_of (Jalr rd rs1 imm) = rd
rd_of (Load op rd rs1 imm) = rd
rd_of (OpImm op rd rs1 imm) = rd
rd_of (Op op rd rs1 rs2) = rd
rd_of (Fence rd rs1 bits) = rd
rd_of _ = record { 0 = 0 }

abbrev pub rs1_of : Instr → Reg
rs1_of (Jalr rd rs1 imm) = rs1
rs1_of (Branch op rs1 rs2 offset) = rs1
rs1_of (Load op rd rs1 imm) = rs1
rs1_of (Store op rs1 rs2 imm) = rs1
rs1_of (OpImm op rd rs1 imm) = rs1
rs1_of (Op op rd rs1 rs2) = rs1
rs1_of (Fence rd rs1 bits) = rs1
rs1_of _ = record { 0 = 0 }

abbrev pub rs2_of : Instr → Reg
rs2_of (Branch op rs1 rs2 offset) = rs2
rs2_of (Store op rs1 rs2 imm) = rs2
rs2_of (Op op rd rs1 rs2) = rs2
rs2_of _ = record { 0 = 0 }

-- the immediate or the offset
abbrev pub number_of : Instr → ℤ
number_of (Lui rd imm) = pos imm
number_of (Auipc rd imm) = pos imm
number_of (Jal rd offset) = offset
number_of (Jalr rd rs1 imm) = imm
number_of (Branch op rs1 rs2 offset) = offset
number_of (Load op rd rs1 imm) = imm
number_of (Store op rs1 rs2 imm) = imm
number_of (OpImm op rd rs1 imm) = imm
number_of _ = pos 0

-- an offset, and the base register in parentheses
abbrev pub address_text : ℤ → Reg → List ℕ
address_text offset base = signed_decimal offset ++ codes "(" ++ register_name base ++ codes ")"

abbrev pub operand_text : Instr → Operand → List ℕ
operand_text i Rd = register_name (rd_of i)
operand_text i Rs1 = register_name (rs1_of i)
operand_text i Rs2 = register_name (rs2_of i)
operand_text i Immediate = signed_decimal (number_of i)
operand_text i Target = signed_decimal (number_of i)
operand_text i Memory = address_text (number_of i) (rs1_of i)

-- the first operand behind a space, each other behind a comma and a space
abbrev pub operands_text : Instr → List Operand → List ℕ
operands_text i [] = []
operands_text i (first ∷ others) = codes " " ++ operand_text i first ++ flat_map (λ operand. codes ", " ++ operand_text i operand) others

abbrev pub row_text : Instr → List ℕ
row_text i = mnemonic_of i ++ operands_text i (operands_of i)

-- so many hexadecimal digits, in lower case
unfoldable pub hexadecimal : ℕ → ℕ → List ℕ
hexadecimal zero n = []
hexadecimal (suc more) n = hexadecimal more (n / 16) ++ digit_char (n % 16) ∷ []

-- a word as a number
abbrev pub raw_text : ℕ → List ℕ
raw_text word = codes ".word 0x" ++ hexadecimal 8 word

-- a word that is this instruction; of all FENCEs the text `fence` is for one alone
abbrev pub instruction_text : ℕ → Instr → List ℕ
instruction_text word (Fence rd rs1 bits) = if word == 0x0FF0000F then row_text (Fence rd rs1 bits) else raw_text word
instruction_text word i = row_text i

abbrev pub line_text : ℕ → Option Instr → List ℕ
line_text word None = raw_text word
line_text word (Some i) = instruction_text word i

-- the text of a word
unfoldable pub text_of : ℕ → List ℕ
text_of word = line_text word (instruction_of word)

-- behind what stood there stands a front of the text, and nothing else
pub record HasFront (before text now : List ℕ) : Type 0 where
  pub count : ℕ
  pub short : count ≤ length text
  pub is_put : now ≡ before ++ take count text
