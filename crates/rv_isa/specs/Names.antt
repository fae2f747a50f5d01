-- The names of instructions and of registers (the RISC-V unprivileged ISA manual, chapter 2; the ABI's
-- register names from its chapter "RISC-V Assembly Programmer's Handbook").
use Rattle.std.specs.Prelude.{ℕ, List, [], ◌∷◌, get_or, codes}
use Rattle.rv_isa.specs.declared.instruction.Reg.{Reg}
use Rattle.rv_isa.specs.declared.instruction.ImmOp.{ImmOp}
use Rattle.rv_isa.specs.declared.instruction.ImmOp.TheVariants.{Addi, Slti, Sltiu, Xori, Ori, Andi, Slli, Srli, Srai}
use Rattle.rv_isa.specs.declared.instruction.BranchOp.{BranchOp}
use Rattle.rv_isa.specs.declared.instruction.BranchOp.TheVariants.{Beq, Bne, Blt, Bge, Bltu, Bgeu}
use Rattle.rv_isa.specs.declared.instruction.LoadOp.{LoadOp}
use Rattle.rv_isa.specs.declared.instruction.LoadOp.TheVariants.{Lb, Lh, Lw, Lbu, Lhu}
use Rattle.rv_isa.specs.declared.instruction.StoreOp.{StoreOp}
use Rattle.rv_isa.specs.declared.instruction.StoreOp.TheVariants.{Sb, Sh, Sw}
use Rattle.rv_isa.specs.declared.instruction.RegOp.{RegOp}
use Rattle.rv_isa.specs.declared.instruction.RegOp.TheVariants.{Add, Sub, Sll, Slt, Sltu, Xor, Srl, Sra, Or, And, Mul, Mulh, Mulhsu, Mulhu, Div, Divu, Rem, Remu}
use Rattle.rv_isa.specs.declared.instruction.Instr.{Instr}
use Rattle.rv_isa.specs.declared.instruction.Instr.TheVariants.{Lui, Auipc, Jal, Jalr, Branch, Load, Store, OpImm, Op, Fence, Ecall, Ebreak}

-- the registers 0, 1, .. 31
abbrev pub register_names : List (List ℕ)
register_names =
    codes "zero" ∷ codes "ra" ∷ codes "sp" ∷ codes "gp" ∷ codes "tp" ∷ codes "t0" ∷ codes "t1" ∷ codes "t2" ∷
    codes "s0" ∷ codes "s1" ∷ codes "a0" ∷ codes "a1" ∷ codes "a2" ∷ codes "a3" ∷ codes "a4" ∷ codes "a5" ∷
    codes "a6" ∷ codes "a7" ∷ codes "s2" ∷ codes "s3" ∷ codes "s4" ∷ codes "s5" ∷ codes "s6" ∷ codes "s7" ∷
    codes "s8" ∷ codes "s9" ∷ codes "s10" ∷ codes "s11" ∷ codes "t3" ∷ codes "t4" ∷ codes "t5" ∷ codes "t6" ∷ []

abbrev pub register_name : Reg → List ℕ
register_name r = get_or register_names r.0 []

abbrev pub branch_name : BranchOp → List ℕ
branch_name Beq = codes "beq"
branch_name Bne = codes "bne"
branch_name Blt = codes "blt"
branch_name Bge = codes "bge"
branch_name Bltu = codes "bltu"
branch_name Bgeu = codes "bgeu"

abbrev pub load_name : LoadOp → List ℕ
load_name Lb = codes "lb"
load_name Lh = codes "lh"
load_name Lw = codes "lw"
load_name Lbu = codes "lbu"
load_name Lhu = codes "lhu"

abbrev pub store_name : StoreOp → List ℕ
store_name Sb = codes "sb"
store_name Sh = codes "sh"
store_name Sw = codes "sw"

abbrev pub imm_name : ImmOp → List ℕ
imm_name Addi = codes "addi"
imm_name Slti = codes "slti"
imm_name Sltiu = codes "sltiu"
imm_name Xori = codes "xori"
imm_name Ori = codes "ori"
imm_name Andi = codes "andi"
imm_name Slli = codes "slli"
imm_name Srli = codes "srli"
imm_name Srai = codes "srai"

abbrev pub op_name : RegOp → List ℕ
op_name Add = codes "add"
op_name Sub = codes "sub"
op_name Sll = codes "sll"
op_name Slt = codes "slt"
op_name Sltu = codes "sltu"
op_name Xor = codes "xor"
op_name Srl = codes "srl"
op_name Sra = codes "sra"
op_name Or = codes "or"
op_name And = codes "and"
op_name Mul = codes "mul"
op_name Mulh = codes "mulh"
op_name Mulhsu = codes "mulhsu"
op_name Mulhu = codes "mulhu"
op_name Div = codes "div"
op_name Divu = codes "divu"
op_name Rem = codes "rem"
op_name Remu = codes "remu"

abbrev pub mnemonic_of : Instr → List ℕ
mnemonic_of (Lui rd imm) = codes "lui"
mnemonic_of (Auipc rd imm) = codes "auipc"
mnemonic_of (Jal rd offset) = codes "jal"
mnemonic_of (Jalr rd rs1 imm) = codes "jalr"
mnemonic_of (Branch op rs1 rs2 offset) = branch_name op
mnemonic_of (Load op rd rs1 imm) = load_name op
mnemonic_of (Store op rs1 rs2 imm) = store_name op
mnemonic_of (OpImm op rd rs1 imm) = imm_name op
mnemonic_of (Op op rd rs1 rs2) = op_name op
mnemonic_of (Fence rd rs1 bits) = codes "fence"
mnemonic_of Ecall = codes "ecall"
mnemonic_of Ebreak = codes "ebreak"
