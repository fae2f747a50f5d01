-- The ranges of an instruction's fields, as its word has room for them.
use Rattle.std.specs.Prelude.{ℕ, ◌≡◌, ◌%◌, ◌<◌, ◌^◌, ℤ, pos, negsuc}
use Rattle.rv_isa.specs.Fields.{unsigned, IsSigned}
use Rattle.rv_isa.specs.declared.instruction.Reg.{Reg}
use Rattle.rv_isa.specs.declared.instruction.ImmOp.{ImmOp}
use Rattle.rv_isa.specs.declared.instruction.ImmOp.TheVariants.{Slli, Srli, Srai}
use Rattle.rv_isa.specs.declared.instruction.Instr.{Instr}
use Rattle.rv_isa.specs.declared.instruction.Instr.TheVariants.{Lui, Auipc, Jal, Jalr, Branch, Load, Store, OpImm, Op, Fence, Ecall, Ebreak}

abbrev pub IsReg : Reg → Type 0
IsReg r = r.0 < 32

-- an even number of that width
abbrev pub IsOffset : ℕ → ℤ → Type 0
IsOffset width z = IsSigned width z × (unsigned width z % 2 ≡ 0)

-- the amount of a shift
abbrev pub IsAmount : ℤ → Type 0
IsAmount (pos n) = n < 32
IsAmount (negsuc n) = ⊥

abbrev pub IsImmediate : ImmOp → ℤ → Type 0
IsImmediate Slli z = IsAmount z
IsImmediate Srli z = IsAmount z
IsImmediate Srai z = IsAmount z
IsImmediate _ z = IsSigned 12 z

abbrev pub IsInstr : Instr → Type 0
IsInstr (Lui rd imm) = IsReg rd × (imm < 2 ^ 20)
IsInstr (Auipc rd imm) = IsReg rd × (imm < 2 ^ 20)
IsInstr (Jal rd offset) = IsReg rd × IsOffset 21 offset
IsInstr (Jalr rd rs1 imm) = IsReg rd × IsReg rs1 × IsSigned 12 imm
IsInstr (Branch op rs1 rs2 offset) = IsReg rs1 × IsReg rs2 × IsOffset 13 offset
IsInstr (Load op rd rs1 imm) = IsReg rd × IsReg rs1 × IsSigned 12 imm
IsInstr (Store op rs1 rs2 imm) = IsReg rs1 × IsReg rs2 × IsSigned 12 imm
IsInstr (OpImm op rd rs1 imm) = IsReg rd × IsReg rs1 × IsImmediate op imm
IsInstr (Op op rd rs1 rs2) = IsReg rd × IsReg rs1 × IsReg rs2
IsInstr (Fence rd rs1 bits) = IsReg rd × IsReg rs1 × (bits < 2 ^ 12)
IsInstr Ecall = Unit {0}
IsInstr Ebreak = Unit {0}
