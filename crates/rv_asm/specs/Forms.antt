-- The forms of a line: a mnemonic, its operands in order, and the instruction that they fill. This project's own;
-- the pseudo forms after the RISC-V unprivileged ISA manual, chapter "RISC-V Assembly Programmer's Handbook".
use Rattle.std.specs.Prelude.{ℕ, pos, negsuc, List, [], ◌∷◌, ◌++◌, Option, find, map, option_map, nat_eq, codes}
use Rattle.std.specs.Cmp.Lexicographic.{pointwise}
use Rattle.rv_isa.specs.Names.{mnemonic_of}
use Rattle.rv_isa.specs.Texts.{operands_of}
use Rattle.rv_isa.specs.declared.syntax.Operand.{Operand}
use Rattle.rv_isa.specs.declared.syntax.Operand.TheVariants.{Rd, Rs1, Rs2, Target}
use Rattle.rv_isa.specs.declared.instruction.Reg.{Reg}
use Rattle.rv_isa.specs.declared.instruction.ImmOp.{ImmOp}
use Rattle.rv_isa.specs.declared.instruction.ImmOp.TheVariants.{Addi, Slti, Sltiu, Xori, Ori, Andi, Slli, Srli, Srai}
use Rattle.rv_isa.specs.declared.instruction.BranchOp.{BranchOp}
use Rattle.rv_isa.specs.declared.instruction.BranchOp.TheVariants.{Beq, Bne, Blt, Bge, Bltu, Bgeu}
use Rattle.rv_isa.specs.declared.instruction.LoadOp.{LoadOp}
use Rattle.rv_isa.specs.declared.instruction.LoadOp.TheVariants.{Lb, Lh, Lw, Lbu, Lhu}
use Rattle.rv_isa.specs.declared.instruction.StoreOp.{StoreOp}
use Rattle.rv_isa.specs.declared.instruction.StoreOp.TheVariants.{Sb, Sh, Sw}
use Rattle.rv_isa.specs.declared.instruction.RegOp.{RegOp}
use Rattle.rv_isa.specs.declared.instruction.RegOp.TheVariants.{Add, Sub, Sll, Slt, Sltu, Xor, Srl, Sra, Or, And, Mul, Mulh, Mulhsu, Mulhu, Div, Divu, Rem, Remu}
use Rattle.rv_isa.specs.declared.instruction.Instr.{Instr}
use Rattle.rv_isa.specs.declared.instruction.Instr.TheVariants.{Lui, Auipc, Jal, Jalr, Branch, Load, Store, OpImm, Op, Fence, Ecall, Ebreak}

abbrev pub x0 : Reg
x0 = record { 0 = 0 }

abbrev pub ra : Reg
ra = record { 0 = 1 }

abbrev pub branch_template : BranchOp → Instr
branch_template op = Branch op x0 x0 (pos 0)

abbrev pub load_template : LoadOp → Instr
load_template op = Load op x0 x0 (pos 0)

abbrev pub store_template : StoreOp → Instr
store_template op = Store op x0 x0 (pos 0)

abbrev pub imm_template : ImmOp → Instr
imm_template op = OpImm op x0 x0 (pos 0)

abbrev pub op_template : RegOp → Instr
op_template op = Op op x0 x0 x0

unfoldable pub single_templates : List Instr
single_templates =
    Lui x0 0 ∷ Auipc x0 0 ∷ Jal x0 (pos 0) ∷ Jalr x0 x0 (pos 0) ∷ Fence x0 x0 0x0FF ∷ Ecall ∷ Ebreak ∷ []

unfoldable pub branch_templates : List Instr
branch_templates = map branch_template (Beq ∷ Bne ∷ Blt ∷ Bge ∷ Bltu ∷ Bgeu ∷ [])

unfoldable pub load_templates : List Instr
load_templates = map load_template (Lb ∷ Lh ∷ Lw ∷ Lbu ∷ Lhu ∷ [])

unfoldable pub store_templates : List Instr
store_templates = map store_template (Sb ∷ Sh ∷ Sw ∷ [])

unfoldable pub imm_templates : List Instr
imm_templates = map imm_template (Addi ∷ Slti ∷ Sltiu ∷ Xori ∷ Ori ∷ Andi ∷ Slli ∷ Srli ∷ Srai ∷ [])

unfoldable pub op_templates : List Instr
op_templates =
    map op_template
    (Add ∷ Sub ∷ Sll ∷ Slt ∷ Sltu ∷ Xor ∷ Srl ∷ Sra ∷ Or ∷ And ∷ Mul ∷ Mulh ∷ Mulhsu ∷ Mulhu ∷ Div ∷ Divu ∷ Rem ∷ Remu ∷ [])

-- the 48 instructions, each where its operands are still to be filled in
unfoldable pub templates : List Instr
templates = single_templates ++ branch_templates ++ load_templates ++ store_templates ++ imm_templates ++ op_templates

pub record Form : Type 0 where
  pub name : List ℕ
  pub operands : List Operand
  pub template : Instr

abbrev pub form : List ℕ → List Operand → Instr → Form
form name operands template = record { name = name; operands = operands; template = template }

abbrev pub instruction_form : Instr → Form
instruction_form i = form (mnemonic_of i) (operands_of i) i

unfoldable pub pseudo_forms : List Form
pseudo_forms =
    form (codes "nop") [] (imm_template Addi) ∷
    form (codes "mv") (Rd ∷ Rs1 ∷ []) (imm_template Addi) ∷
    form (codes "not") (Rd ∷ Rs1 ∷ []) (OpImm Xori x0 x0 (negsuc 0)) ∷
    form (codes "neg") (Rd ∷ Rs2 ∷ []) (op_template Sub) ∷
    form (codes "j") (Target ∷ []) (Jal x0 (pos 0)) ∷
    form (codes "jr") (Rs1 ∷ []) (Jalr x0 x0 (pos 0)) ∷
    form (codes "ret") [] (Jalr x0 ra (pos 0)) ∷
    form (codes "beqz") (Rs1 ∷ Target ∷ []) (branch_template Beq) ∷
    form (codes "bnez") (Rs1 ∷ Target ∷ []) (branch_template Bne) ∷ []

abbrev pub forms : List Form
forms = map instruction_form templates ++ pseudo_forms

abbrev pub form_among : List Form → List ℕ → Option Form
form_among among word = find (λ f. pointwise nat_eq f.name word) among

-- the operands and the template of a form
abbrev pub form_parts : Form → List Operand × Instr
form_parts f = (f.operands, f.template)

-- the operands and the template of a mnemonic
unfoldable pub form_named : List ℕ → Option (List Operand × Instr)
form_named word = option_map form_parts (form_among forms word)
