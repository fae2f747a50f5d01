-- The instruction table: one row for each instruction (the RISC-V unprivileged ISA manual, chapter 2, the
-- chapter on extension M, and of the listing "RV32/64G Instruction Set Listings" the tables "RV32I Base
-- Instruction Set" and "RV32M Standard Extension").
use Rattle.std.specs.Prelude.{ℕ, ◌==◌, ◌≡◌, Bool, false, ◌&&◌, pos, List, [], ◌∷◌, All, Option, Some, None, if◌then◌else◌}
use Rattle.rv_isa.specs.Formats.{opcode, funct3, funct7, rd, rs1, rs2, shift_amount, u_immediate, i_immediate, s_immediate, b_immediate, j_immediate}
use Rattle.rv_isa.specs.Fields.{bits}
use Rattle.rv_isa.specs.declared.instruction.ImmOp.{ImmOp}
use Rattle.rv_isa.specs.declared.instruction.ImmOp.TheVariants.{Addi, Slti, Sltiu, Xori, Ori, Andi, Slli, Srli, Srai}
use Rattle.rv_isa.specs.declared.instruction.BranchOp.{BranchOp}
use Rattle.rv_isa.specs.declared.instruction.BranchOp.TheVariants.{Beq, Bne, Blt, Bge, Bltu, Bgeu}
use Rattle.rv_isa.specs.declared.instruction.LoadOp.{LoadOp}
use Rattle.rv_isa.specs.declared.instruction.LoadOp.TheVariants.{Lb, Lh, Lw, Lbu, Lhu}
use Rattle.rv_isa.specs.declared.instruction.StoreOp.{StoreOp}
use Rattle.rv_isa.specs.declared.instruction.StoreOp.TheVariants.{Sb, Sh, Sw}
use Rattle.rv_isa.specs.declared.instruction.RegOp.{RegOp}
use Rattle.rv_isa.specs.declared.instruction.RegOp.TheVariants.{Add, Sub, Sll, Slt, Sltu, Xor, Srl, Sra, Or, And, Mul, Mulh, Mulhsu, Mulhu, Div, Divu, Rem, Remu}
use Rattle.rv_isa.specs.declared.instruction.Instr.{Instr}
use Rattle.rv_isa.specs.declared.instruction.Instr.TheVariants.{Lui, Auipc, Jal, Jalr, Branch, Load, Store, OpImm, Op, Fence, Ecall, Ebreak}

-- A row: which words it has, and which instruction such a word is.
pub record Row : Type 0 where
  pub has : ℕ → Bool
  pub reads : ℕ → Instr

-- the words with this opcode, with this opcode and funct3, and with all three
abbrev pub by_opcode : ℕ → (ℕ → Instr) → Row
by_opcode code reads = record { has = λ w. opcode w == code; reads = reads }

abbrev pub by_funct3 : ℕ → ℕ → (ℕ → Instr) → Row
by_funct3 code f3 reads = record { has = λ w. (opcode w == code) && (funct3 w == f3); reads = reads }

abbrev pub by_funct7 : ℕ → ℕ → ℕ → (ℕ → Instr) → Row
by_funct7 code f3 f7 reads = record { has = λ w. (opcode w == code) && (funct3 w == f3) && (funct7 w == f7); reads = reads }

-- the one word with this instruction
abbrev pub by_word : ℕ → Instr → Row
by_word word i = record { has = λ w. w == word; reads = λ w. i }

-- the rows of one kind of instruction, by funct3 and funct7
abbrev pub branch : ℕ → BranchOp → Row
branch f3 op = by_funct3 0b1100011 f3 (λ w. Branch op (rs1 w) (rs2 w) (b_immediate w))

abbrev pub load : ℕ → LoadOp → Row
load f3 op = by_funct3 0b0000011 f3 (λ w. Load op (rd w) (rs1 w) (i_immediate w))

abbrev pub store : ℕ → StoreOp → Row
store f3 op = by_funct3 0b0100011 f3 (λ w. Store op (rs1 w) (rs2 w) (s_immediate w))

abbrev pub op_imm : ℕ → ImmOp → Row
op_imm f3 op = by_funct3 0b0010011 f3 (λ w. OpImm op (rd w) (rs1 w) (i_immediate w))

abbrev pub shift_imm : ℕ → ℕ → ImmOp → Row
shift_imm f3 f7 op = by_funct7 0b0010011 f3 f7 (λ w. OpImm op (rd w) (rs1 w) (pos (shift_amount w)))

abbrev pub op : ℕ → ℕ → RegOp → Row
op f3 f7 o = by_funct7 0b0110011 f3 f7 (λ w. Op o (rd w) (rs1 w) (rs2 w))

abbrev pub table : List Row
table =
    by_opcode 0b0110111 (λ w. Lui (rd w) (u_immediate w)) ∷
    by_opcode 0b0010111 (λ w. Auipc (rd w) (u_immediate w)) ∷
    by_opcode 0b1101111 (λ w. Jal (rd w) (j_immediate w)) ∷
    by_funct3 0b1100111 0b000 (λ w. Jalr (rd w) (rs1 w) (i_immediate w)) ∷
    branch 0b000 Beq ∷ branch 0b001 Bne ∷ branch 0b100 Blt ∷ branch 0b101 Bge ∷ branch 0b110 Bltu ∷ branch 0b111 Bgeu ∷
    load 0b000 Lb ∷ load 0b001 Lh ∷ load 0b010 Lw ∷ load 0b100 Lbu ∷ load 0b101 Lhu ∷
    store 0b000 Sb ∷ store 0b001 Sh ∷ store 0b010 Sw ∷
    op_imm 0b000 Addi ∷ op_imm 0b010 Slti ∷ op_imm 0b011 Sltiu ∷ op_imm 0b100 Xori ∷ op_imm 0b110 Ori ∷ op_imm 0b111 Andi ∷
    shift_imm 0b001 0b0000000 Slli ∷ shift_imm 0b101 0b0000000 Srli ∷ shift_imm 0b101 0b0100000 Srai ∷
    op 0b000 0b0000000 Add ∷ op 0b000 0b0100000 Sub ∷ op 0b001 0b0000000 Sll ∷ op 0b010 0b0000000 Slt ∷ op 0b011 0b0000000 Sltu ∷
    op 0b100 0b0000000 Xor ∷ op 0b101 0b0000000 Srl ∷ op 0b101 0b0100000 Sra ∷ op 0b110 0b0000000 Or ∷ op 0b111 0b0000000 And ∷
    op 0b000 0b0000001 Mul ∷ op 0b001 0b0000001 Mulh ∷ op 0b010 0b0000001 Mulhsu ∷ op 0b011 0b0000001 Mulhu ∷
    op 0b100 0b0000001 Div ∷ op 0b101 0b0000001 Divu ∷ op 0b110 0b0000001 Rem ∷ op 0b111 0b0000001 Remu ∷
    by_funct3 0b0001111 0b000 (λ w. Fence (rd w) (rs1 w) (bits 20 12 w)) ∷
    by_word 0x00000073 Ecall ∷ by_word 0x00100073 Ebreak ∷ []

-- the instruction of the first row that has the word
abbrev pub read_by : List Row → ℕ → Option Instr
read_by [] word = None
read_by (row ∷ rows) word = if row.has word then Some (row.reads word) else read_by rows word

unfoldable pub instruction_of : ℕ → Option Instr
instruction_of word = read_by table word

-- no row has the word
abbrev pub HasNoRow : ℕ → Type 0
HasNoRow word = All (λ row. row.has word ≡ false) table
