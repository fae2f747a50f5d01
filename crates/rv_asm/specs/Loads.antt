-- `li`: one or two instructions that load a value of 32 bits. This project's own.
use Rattle.std.specs.Prelude.{ℕ, ◌==◌, ◌+◌, ◌/◌, ◌%◌, ◌^◌, List, [], ◌∷◌, if◌then◌else◌}
use Rattle.rv_isa.specs.Fields.{signed}
use Rattle.rv_isa.specs.declared.instruction.Reg.{Reg}
use Rattle.rv_isa.specs.declared.instruction.ImmOp.TheVariants.{Addi}
use Rattle.rv_isa.specs.declared.instruction.Instr.{Instr}
use Rattle.rv_isa.specs.declared.instruction.Instr.TheVariants.{Lui, OpImm}
use Rattle.rv_asm.specs.Numbers.{is_within}
use Rattle.rv_asm.specs.Forms.{x0}

-- the upper 20 bits, rounded so that the signed low 12 bits lead back to the value
abbrev pub high_part : ℕ → ℕ
high_part v = (v + 2048) % 2 ^ 32 / 4096

-- `addi` alone where the value has 12 bits, else `lui`, and `addi` where the low 12 bits are not 0
unfoldable pub loads : Reg → ℕ → List Instr
loads rd v =
    if is_within 2048 2047 (signed 32 v) then OpImm Addi rd x0 (signed 32 v) ∷ []
    else Lui rd (high_part v) ∷ (if v % 4096 == 0 then [] else OpImm Addi rd rd (signed 12 (v % 4096)) ∷ [])
