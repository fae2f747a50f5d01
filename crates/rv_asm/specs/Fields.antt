-- The fields of an instruction that the operands of a line fill, and the range of its value. This project's own.
use Rattle.std.specs.Prelude.{ℤ, ◌&&◌, Bool, true}
use Rattle.rv_isa.specs.Fields.{unsigned}
use Rattle.rv_isa.specs.declared.instruction.Reg.{Reg}
use Rattle.rv_isa.specs.declared.instruction.ImmOp.{ImmOp}
use Rattle.rv_isa.specs.declared.instruction.ImmOp.TheVariants.{Slli, Srli, Srai}
use Rattle.rv_isa.specs.declared.instruction.Instr.{Instr}
use Rattle.rv_isa.specs.declared.instruction.Instr.TheVariants.{Lui, Auipc, Jal, Jalr, Branch, Load, Store, OpImm, Op, Fence}
use Rattle.rv_asm.specs.Numbers.{is_within, is_even}

abbrev pub with_rd : Reg → Instr → Instr
with_rd r (Lui rd imm) = Lui r imm
with_rd r (Auipc rd imm) = Auipc r imm
with_rd r (Jal rd offset) = Jal r offset
with_rd r (Jalr rd rs1 imm) = Jalr r rs1 imm
with_rd r (Load op rd rs1 imm) = Load op r rs1 imm
with_rd r (OpImm op rd rs1 imm) = OpImm op r rs1 imm
with_rd r (Op op rd rs1 rs2) = Op op r rs1 rs2
with_rd r (Fence rd rs1 bits) = Fence r rs1 bits
with_rd r i = i

abbrev pub with_rs1 : Reg → Instr → Instr
with_rs1 r (Jalr rd rs1 imm) = Jalr rd r imm
with_rs1 r (Branch op rs1 rs2 offset) = Branch op r rs2 offset
with_rs1 r (Load op rd rs1 imm) = Load op rd r imm
with_rs1 r (Store op rs1 rs2 imm) = Store op r rs2 imm
with_rs1 r (OpImm op rd rs1 imm) = OpImm op rd r imm
with_rs1 r (Op op rd rs1 rs2) = Op op rd r rs2
with_rs1 r (Fence rd rs1 bits) = Fence rd r bits
with_rs1 r i = i

abbrev pub with_rs2 : Reg → Instr → Instr
with_rs2 r (Branch op rs1 rs2 offset) = Branch op rs1 r offset
with_rs2 r (Store op rs1 rs2 imm) = Store op rs1 r imm
with_rs2 r (Op op rd rs1 rs2) = Op op rd rs1 r
with_rs2 r i = i

-- the value is the immediate or the offset
abbrev pub with_value : ℤ → Instr → Instr
with_value z (Lui rd imm) = Lui rd (unsigned 32 z)
with_value z (Auipc rd imm) = Auipc rd (unsigned 32 z)
with_value z (Jal rd offset) = Jal rd z
with_value z (Jalr rd rs1 imm) = Jalr rd rs1 z
with_value z (Branch op rs1 rs2 offset) = Branch op rs1 rs2 z
with_value z (Load op rd rs1 imm) = Load op rd rs1 z
with_value z (Store op rs1 rs2 imm) = Store op rs1 rs2 z
with_value z (OpImm op rd rs1 imm) = OpImm op rd rs1 z
with_value z i = i

abbrev pub immediate_fits : ImmOp → ℤ → Bool
immediate_fits Slli z = is_within 0 31 z
immediate_fits Srli z = is_within 0 31 z
immediate_fits Srai z = is_within 0 31 z
immediate_fits _ z = is_within 2048 2047 z

-- the range of the value; an instruction without one takes each
abbrev pub fits : Instr → ℤ → Bool
fits (Lui rd imm) z = is_within 0 1048575 z
fits (Auipc rd imm) z = is_within 0 1048575 z
fits (Jal rd offset) z = is_within 1048576 1048574 z && is_even z
fits (Jalr rd rs1 imm) z = is_within 2048 2047 z
fits (Branch op rs1 rs2 offset) z = is_within 4096 4094 z && is_even z
fits (Load op rd rs1 imm) z = is_within 2048 2047 z
fits (Store op rs1 rs2 imm) z = is_within 2048 2047 z
fits (OpImm op rd rs1 imm) z = immediate_fits op z
fits i z = true
