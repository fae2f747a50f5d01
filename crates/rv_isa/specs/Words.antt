-- The word of each instruction, as the sum of its fields (the RISC-V unprivileged ISA manual, section 2.2
-- "Base Instruction Formats"). The table alone says what a word means; by a law it reads this word back.
use Rattle.std.specs.Prelude.{ℕ, ◌+◌, ◌*◌, ℤ}
use Rattle.rv_isa.specs.Fields.{bits, unsigned}
use Rattle.rv_isa.specs.declared.instruction.ImmOp.{ImmOp}
use Rattle.rv_isa.specs.declared.instruction.ImmOp.TheVariants.{Addi, Slti, Sltiu, Xori, Ori, Andi, Slli, Srli, Srai}
use Rattle.rv_isa.specs.declared.instruction.BranchOp.{BranchOp}
use Rattle.rv_isa.specs.declared.instruction.BranchOp.TheVariants.{Beq, Bne, Blt, Bge, Bltu, Bgeu}
use Rattle.rv_isa.specs.declared.instruction.LoadOp.{LoadOp}
use Rattle.rv_isa.specs.declared.instruction.LoadOp.TheVariants.{Lb, Lh, Lw, Lbu, Lhu}
use Rattle.rv_isa.specs.declared.instruction.StoreOp.{StoreOp}
use Rattle.rv_isa.specs.declared.instruction.StoreOp.TheVariants.{Sb, Sh, Sw}
use Rattle.rv_isa.specs.declared.instruction.RegOp.{RegOp}
use Rattle.rv_isa.specs.declared.instruction.RegOp.TheVariants.{Add, Sub, Sll, Slt, Sltu, Xor, Srl, Sra, Or, And, Mul, Mulh, Mulhsu, Mulhu, Div, Divu, Rem, Remu}
use Rattle.rv_isa.specs.declared.instruction.Instr.{Instr}
use Rattle.rv_isa.specs.declared.instruction.Instr.TheVariants.{Lui, Auipc, Jal, Jalr, Branch, Load, Store, OpImm, Op, Fence, Ecall, Ebreak}

abbrev pub branch_funct3 : BranchOp → ℕ
branch_funct3 Beq = 0
branch_funct3 Bne = 1
branch_funct3 Blt = 4
branch_funct3 Bge = 5
branch_funct3 Bltu = 6
branch_funct3 Bgeu = 7

abbrev pub imm_funct3 : ImmOp → ℕ
imm_funct3 Addi = 0
imm_funct3 Slti = 2
imm_funct3 Sltiu = 3
imm_funct3 Xori = 4
imm_funct3 Ori = 6
imm_funct3 Andi = 7
imm_funct3 Slli = 1
imm_funct3 Srli = 5
imm_funct3 Srai = 5

-- the bits 31 to 20
abbrev pub imm_bits : ImmOp → ℤ → ℕ
imm_bits Slli z = unsigned 12 z
imm_bits Srli z = unsigned 12 z
imm_bits Srai z = 1024 + unsigned 12 z
imm_bits _ z = unsigned 12 z

abbrev pub i_word : ℕ → ℕ → ℕ → ℕ → ℕ → ℕ
i_word opcode rd funct3 rs1 imm = opcode + rd * 128 + funct3 * 4096 + rs1 * 32768 + imm * 1048576

abbrev pub j_word : ℕ → ℕ → ℕ → ℕ
j_word opcode rd u = opcode + rd * 128 + bits 12 8 u * 4096 + bits 11 1 u * 1048576 + bits 1 10 u * 2097152 + bits 20 1 u * 2147483648

abbrev pub b_word : ℕ → ℕ → ℕ → ℕ → ℕ → ℕ
b_word opcode funct3 rs1 rs2 u = opcode + bits 11 1 u * 128 + bits 1 4 u * 256 + funct3 * 4096 + rs1 * 32768 + rs2 * 1048576 + bits 5 6 u * 33554432 + bits 12 1 u * 2147483648

abbrev pub load_funct3 : LoadOp → ℕ
load_funct3 Lb = 0
load_funct3 Lh = 1
load_funct3 Lw = 2
load_funct3 Lbu = 4
load_funct3 Lhu = 5

abbrev pub store_funct3 : StoreOp → ℕ
store_funct3 Sb = 0
store_funct3 Sh = 1
store_funct3 Sw = 2

abbrev pub op_funct3 : RegOp → ℕ
op_funct3 Add = 0
op_funct3 Sub = 0
op_funct3 Sll = 1
op_funct3 Slt = 2
op_funct3 Sltu = 3
op_funct3 Xor = 4
op_funct3 Srl = 5
op_funct3 Sra = 5
op_funct3 Or = 6
op_funct3 And = 7
op_funct3 Mul = 0
op_funct3 Mulh = 1
op_funct3 Mulhsu = 2
op_funct3 Mulhu = 3
op_funct3 Div = 4
op_funct3 Divu = 5
op_funct3 Rem = 6
op_funct3 Remu = 7

abbrev pub op_funct7 : RegOp → ℕ
op_funct7 Sub = 32
op_funct7 Sra = 32
op_funct7 Mul = 1
op_funct7 Mulh = 1
op_funct7 Mulhsu = 1
op_funct7 Mulhu = 1
op_funct7 Div = 1
op_funct7 Divu = 1
op_funct7 Rem = 1
op_funct7 Remu = 1
op_funct7 _ = 0

abbrev pub u_word : ℕ → ℕ → ℕ → ℕ
u_word opcode rd imm = opcode + rd * 128 + imm * 4096

abbrev pub s_word : ℕ → ℕ → ℕ → ℕ → ℕ → ℕ
s_word opcode funct3 rs1 rs2 u = opcode + bits 0 5 u * 128 + funct3 * 4096 + rs1 * 32768 + rs2 * 1048576 + bits 5 7 u * 33554432

abbrev pub instruction_word : Instr → ℕ
instruction_word (Lui rd imm) = u_word 55 rd.0 imm
instruction_word (Auipc rd imm) = u_word 23 rd.0 imm
instruction_word (Jal rd offset) = j_word 111 rd.0 (unsigned 21 offset)
instruction_word (Jalr rd rs1 imm) = i_word 103 rd.0 0 rs1.0 (unsigned 12 imm)
instruction_word (Branch op rs1 rs2 offset) = b_word 99 (branch_funct3 op) rs1.0 rs2.0 (unsigned 13 offset)
instruction_word (Load op rd rs1 imm) = i_word 3 rd.0 (load_funct3 op) rs1.0 (unsigned 12 imm)
instruction_word (Store op rs1 rs2 imm) = s_word 35 (store_funct3 op) rs1.0 rs2.0 (unsigned 12 imm)
instruction_word (OpImm op rd rs1 imm) = i_word 19 rd.0 (imm_funct3 op) rs1.0 (imm_bits op imm)
instruction_word (Op op rd rs1 rs2) = i_word 51 rd.0 (op_funct3 op) rs1.0 (op_funct7 op * 32 + rs2.0)
instruction_word (Fence rd rs1 bits) = i_word 15 rd.0 0 rs1.0 bits
instruction_word Ecall = 0x00000073
instruction_word Ebreak = 0x00100073
