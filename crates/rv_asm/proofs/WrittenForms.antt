-- Each instruction's mnemonic has its form, and its operands filled in give its word.
use Rattle.std.proofs.Common.{◌≡◌, ℕ, true, false, pos, [], ◌∷◌, Some, None, Ok, refl, codes, nat_eq}
use Rattle.std.specs.Cmp.Lexicographic.{pointwise}
use Rattle.rv_isa.specs.Names.{mnemonic_of}
use Rattle.rv_isa.specs.Ranges.{IsInstr}
use Rattle.rv_isa.specs.Texts.{operands_of}
use Rattle.rv_isa.specs.Words.{instruction_word}
use Rattle.rv_isa.specs.declared.instruction.ImmOp.TheVariants.{Addi, Slti, Sltiu, Xori, Ori, Andi, Slli, Srli, Srai}
use Rattle.rv_isa.specs.declared.instruction.BranchOp.TheVariants.{Beq, Bne, Blt, Bge, Bltu, Bgeu}
use Rattle.rv_isa.specs.declared.instruction.LoadOp.TheVariants.{Lb, Lh, Lw, Lbu, Lhu}
use Rattle.rv_isa.specs.declared.instruction.StoreOp.TheVariants.{Sb, Sh, Sw}
use Rattle.rv_isa.specs.declared.instruction.RegOp.TheVariants.{Add, Sub, Sll, Slt, Sltu, Xor, Srl, Sra, Or, And, Mul, Mulh, Mulhsu, Mulhu, Div, Divu, Rem, Remu}
use Rattle.rv_isa.specs.declared.instruction.Instr.{Instr}
use Rattle.rv_isa.specs.declared.instruction.Instr.TheVariants.{Lui, Auipc, Jal, Jalr, Branch, Load, Store, OpImm, Op, Fence, Ecall, Ebreak}
use Rattle.rv_asm.specs.Forms.{x0, branch_template, load_template, store_template, imm_template, op_template, single_templates, branch_templates, load_templates, store_templates, imm_templates, op_templates, templates, pseudo_forms, form_named}
use Rattle.rv_asm.specs.Labels.{Found}
use Rattle.rv_asm.specs.Assembly.{instruction_words}
use Rattle.rv_asm.specs.Operands.{Open, opened, Absent, before_end}
use Rattle.rv_asm.proofs.Tokens.{is_token}
use Rattle.rv_asm.proofs.Ranges.{whole_value_fits}
use Rattle.rv_asm.proofs.WrittenNumbers.{short_word}
use Rattle.rv_asm.proofs.WrittenOperands.{IsPlain, put_all}

-- the instruction that the operands of a row fill
abbrev pub template : Instr → Instr
template (Lui rd imm) = Lui x0 0
template (Auipc rd imm) = Auipc x0 0
template (Jal rd offset) = Jal x0 (pos 0)
template (Jalr rd rs1 imm) = Jalr x0 x0 (pos 0)
template (Branch op rs1 rs2 offset) = branch_template op
template (Load op rd rs1 imm) = load_template op
template (Store op rs1 rs2 imm) = store_template op
template (OpImm op rd rs1 imm) = imm_template op
template (Op op rd rs1 rs2) = op_template op
template (Fence rd rs1 bits) = Fence x0 x0 0x0FF
template Ecall = Ecall
template Ebreak = Ebreak

pub record IsFormed (i : Instr) : Type 0 where
  pub token : is_token (mnemonic_of i) ≡ true
  pub unlabelled : before_end 58 (mnemonic_of i) ≡ None
  pub no_load : pointwise nat_eq (mnemonic_of i) (codes "li") ≡ false
  pub no_word : pointwise nat_eq (mnemonic_of i) (codes ".word") ≡ false
  pub named : form_named (mnemonic_of i) ≡ Some (operands_of i, template i)

pub formed : (i : Instr) → IsFormed i
unfolding form_named single_templates branch_templates load_templates store_templates imm_templates op_templates templates pseudo_forms
formed (Lui rd imm) = record { token = refl; unlabelled = refl; no_load = refl; no_word = refl; named = refl }
formed (Auipc rd imm) = record { token = refl; unlabelled = refl; no_load = refl; no_word = refl; named = refl }
formed (Jal rd offset) = record { token = refl; unlabelled = refl; no_load = refl; no_word = refl; named = refl }
formed (Jalr rd rs1 imm) = record { token = refl; unlabelled = refl; no_load = refl; no_word = refl; named = refl }
formed (Branch Beq rs1 rs2 offset) = record { token = refl; unlabelled = refl; no_load = refl; no_word = refl; named = refl }
formed (Branch Bne rs1 rs2 offset) = record { token = refl; unlabelled = refl; no_load = refl; no_word = refl; named = refl }
formed (Branch Blt rs1 rs2 offset) = record { token = refl; unlabelled = refl; no_load = refl; no_word = refl; named = refl }
formed (Branch Bge rs1 rs2 offset) = record { token = refl; unlabelled = refl; no_load = refl; no_word = refl; named = refl }
formed (Branch Bltu rs1 rs2 offset) = record { token = refl; unlabelled = refl; no_load = refl; no_word = refl; named = refl }
formed (Branch Bgeu rs1 rs2 offset) = record { token = refl; unlabelled = refl; no_load = refl; no_word = refl; named = refl }
formed (Load Lb rd rs1 imm) = record { token = refl; unlabelled = refl; no_load = refl; no_word = refl; named = refl }
formed (Load Lh rd rs1 imm) = record { token = refl; unlabelled = refl; no_load = refl; no_word = refl; named = refl }
formed (Load Lw rd rs1 imm) = record { token = refl; unlabelled = refl; no_load = refl; no_word = refl; named = refl }
formed (Load Lbu rd rs1 imm) = record { token = refl; unlabelled = refl; no_load = refl; no_word = refl; named = refl }
formed (Load Lhu rd rs1 imm) = record { token = refl; unlabelled = refl; no_load = refl; no_word = refl; named = refl }
formed (Store Sb rs1 rs2 imm) = record { token = refl; unlabelled = refl; no_load = refl; no_word = refl; named = refl }
formed (Store Sh rs1 rs2 imm) = record { token = refl; unlabelled = refl; no_load = refl; no_word = refl; named = refl }
formed (Store Sw rs1 rs2 imm) = record { token = refl; unlabelled = refl; no_load = refl; no_word = refl; named = refl }
formed (OpImm Addi rd rs1 imm) = record { token = refl; unlabelled = refl; no_load = refl; no_word = refl; named = refl }
formed (OpImm Slti rd rs1 imm) = record { token = refl; unlabelled = refl; no_load = refl; no_word = refl; named = refl }
formed (OpImm Sltiu rd rs1 imm) = record { token = refl; unlabelled = refl; no_load = refl; no_word = refl; named = refl }
formed (OpImm Xori rd rs1 imm) = record { token = refl; unlabelled = refl; no_load = refl; no_word = refl; named = refl }
formed (OpImm Ori rd rs1 imm) = record { token = refl; unlabelled = refl; no_load = refl; no_word = refl; named = refl }
formed (OpImm Andi rd rs1 imm) = record { token = refl; unlabelled = refl; no_load = refl; no_word = refl; named = refl }
formed (OpImm Slli rd rs1 imm) = record { token = refl; unlabelled = refl; no_load = refl; no_word = refl; named = refl }
formed (OpImm Srli rd rs1 imm) = record { token = refl; unlabelled = refl; no_load = refl; no_word = refl; named = refl }
formed (OpImm Srai rd rs1 imm) = record { token = refl; unlabelled = refl; no_load = refl; no_word = refl; named = refl }
formed (Op Add rd rs1 rs2) = record { token = refl; unlabelled = refl; no_load = refl; no_word = refl; named = refl }
formed (Op Sub rd rs1 rs2) = record { token = refl; unlabelled = refl; no_load = refl; no_word = refl; named = refl }
formed (Op Sll rd rs1 rs2) = record { token = refl; unlabelled = refl; no_load = refl; no_word = refl; named = refl }
formed (Op Slt rd rs1 rs2) = record { token = refl; unlabelled = refl; no_load = refl; no_word = refl; named = refl }
formed (Op Sltu rd rs1 rs2) = record { token = refl; unlabelled = refl; no_load = refl; no_word = refl; named = refl }
formed (Op Xor rd rs1 rs2) = record { token = refl; unlabelled = refl; no_load = refl; no_word = refl; named = refl }
formed (Op Srl rd rs1 rs2) = record { token = refl; unlabelled = refl; no_load = refl; no_word = refl; named = refl }
formed (Op Sra rd rs1 rs2) = record { token = refl; unlabelled = refl; no_load = refl; no_word = refl; named = refl }
formed (Op Or rd rs1 rs2) = record { token = refl; unlabelled = refl; no_load = refl; no_word = refl; named = refl }
formed (Op And rd rs1 rs2) = record { token = refl; unlabelled = refl; no_load = refl; no_word = refl; named = refl }
formed (Op Mul rd rs1 rs2) = record { token = refl; unlabelled = refl; no_load = refl; no_word = refl; named = refl }
formed (Op Mulh rd rs1 rs2) = record { token = refl; unlabelled = refl; no_load = refl; no_word = refl; named = refl }
formed (Op Mulhsu rd rs1 rs2) = record { token = refl; unlabelled = refl; no_load = refl; no_word = refl; named = refl }
formed (Op Mulhu rd rs1 rs2) = record { token = refl; unlabelled = refl; no_load = refl; no_word = refl; named = refl }
formed (Op Div rd rs1 rs2) = record { token = refl; unlabelled = refl; no_load = refl; no_word = refl; named = refl }
formed (Op Divu rd rs1 rs2) = record { token = refl; unlabelled = refl; no_load = refl; no_word = refl; named = refl }
formed (Op Rem rd rs1 rs2) = record { token = refl; unlabelled = refl; no_load = refl; no_word = refl; named = refl }
formed (Op Remu rd rs1 rs2) = record { token = refl; unlabelled = refl; no_load = refl; no_word = refl; named = refl }
formed (Fence rd rs1 bits) = record { token = refl; unlabelled = refl; no_load = refl; no_word = refl; named = refl }
formed Ecall = record { token = refl; unlabelled = refl; no_load = refl; no_word = refl; named = refl }
formed Ebreak = record { token = refl; unlabelled = refl; no_load = refl; no_word = refl; named = refl }

-- ---- words

abbrev pub IsNoFence : Instr → Type 0
IsNoFence (Fence rd rs1 bits) = ⊥
IsNoFence i = Unit {0}

abbrev pub filled_in : Instr → Open
filled_in i = put_all i (operands_of i) (opened (template i) Absent)

-- an instruction whose operands were all filled in has its word
pub words_back : (found : Found) (here : ℕ) (i : Instr) → IsPlain i → IsInstr i → IsNoFence i → instruction_words found here (filled_in i).instr (filled_in i).value ≡ Ok (instruction_word i ∷ [])
words_back found here (Lui rd imm) so ok other = rw (whole_value_fits (Lui rd 0) (pos imm) (short_word (pos imm) so.number) ok) refl
words_back found here (Auipc rd imm) so ok other = rw (whole_value_fits (Auipc rd 0) (pos imm) (short_word (pos imm) so.number) ok) refl
words_back found here (Jal rd offset) so ok other = rw (whole_value_fits (Jal rd (pos 0)) offset (short_word offset so.number) ok) refl
words_back found here (Jalr rd rs1 imm) so ok other = rw (whole_value_fits (Jalr rd rs1 (pos 0)) imm (short_word imm so.number) ok) refl
words_back found here (Branch op rs1 rs2 offset) so ok other = rw (whole_value_fits (Branch op rs1 rs2 (pos 0)) offset (short_word offset so.number) ok) refl
words_back found here (Load op rd rs1 imm) so ok other = rw (whole_value_fits (Load op rd rs1 (pos 0)) imm (short_word imm so.number) ok) refl
words_back found here (Store op rs1 rs2 imm) so ok other = rw (whole_value_fits (Store op rs1 rs2 (pos 0)) imm (short_word imm so.number) ok) refl
words_back found here (OpImm op rd rs1 imm) so ok other = rw (whole_value_fits (OpImm op rd rs1 (pos 0)) imm (short_word imm so.number) ok) refl
words_back found here (Op op rd rs1 rs2) so ok other = refl
words_back found here (Fence rd rs1 bits) so ok other = absurd other
words_back found here Ecall so ok other = refl
words_back found here Ebreak so ok other = refl
