-- What the laws of the assembler say. This project's own; what `lui` and `addi` do after the RISC-V unprivileged ISA
-- manual, section 2.4 "Integer Computational Instructions".
use Rattle.std.specs.Prelude.{◌≡◌, ℕ, ◌==◌, ◌+◌, ◌*◌, ◌%◌, ◌^◌, List, [], ◌∷◌, ◌++◌, length, map, Ok, Err, if◌then◌else◌}
use Rattle.rv_isa.specs.Fields.{unsigned}
use Rattle.rv_isa.specs.declared.instruction.Instr.{Instr}
use Rattle.rv_isa.specs.declared.instruction.Instr.TheVariants.{Lui, OpImm}
use Rattle.rv_asm.specs.Causes.{AsmError}
use Rattle.rv_asm.specs.Assembly.{line_after, lines_after}
use Rattle.rv_asm.specs.Labels.{labels_of}
use Rattle.rv_asm.specs.Lines.{parsed}

-- all lines before the refused one are taken, and this one is not, for this cause
pub record FirstFault (lines : List (List ℕ)) (e : AsmError) : Type 0 where
  pub before : List (List ℕ)
  pub line : List ℕ
  pub after : List (List ℕ)
  pub words : List ℕ
  pub parts : lines ≡ before ++ line ∷ after
  pub number : e.line ≡ length before + 1
  pub taken : lines_after (labels_of (map parsed lines)) 1 [] (map parsed before) ≡ Ok words
  pub refused : line_after (labels_of (map parsed lines)) e.line words (parsed line) ≡ Err e.cause

-- what `lui` or `addi` leaves in its register, which held x; register 0 reads as 0
abbrev pub value_after : Instr → ℕ → ℕ
value_after (Lui rd imm) x = imm * 4096
value_after (OpImm op rd rs1 imm) x = ((if rs1.0 == 0 then 0 else x) + unsigned 32 imm) % 2 ^ 32
value_after i x = x

abbrev pub values_after : List Instr → ℕ → ℕ
values_after [] x = x
values_after (i ∷ is) x = values_after is (value_after i x)
