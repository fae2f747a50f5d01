-- A word that a row of the table has is the word of the instruction that the row reads.
use Rattle.std.proofs.Common.{◌≡◌, ℕ, ◌+◌, ◌*◌, ◌<◌, ◌^◌, pos, arith, refl, sym, Some, None, Option, Bool, true, false, cond, ◌==◌, ◌&&◌, subst, List, [], ◌∷◌, IfSome, IsNone, All, ◌↔◌}
use Rattle.std.proofs.lemmas.Grind.{common_steps}
use Rattle.std.proofs.lemmas.List.Elements.{All-nil, All-cons, All-head, All-tail}
use Rattle.rv_isa.specs.Fields.{bits, signed, unsigned, IsSigned}
use Rattle.rv_isa.specs.Words.{instruction_word, imm_funct3, branch_funct3, load_funct3, store_funct3, op_funct3, op_funct7, imm_bits}
use Rattle.rv_isa.specs.Formats.{rd, rs1, u_immediate, i_immediate, j_immediate}
use Rattle.rv_isa.specs.Table.{instruction_of, HasNoRow, Row, table, read_by, by_opcode, by_funct3, by_word, branch, load, store, op_imm, shift_imm, op}
use Rattle.rv_isa.specs.Ranges.{IsInstr, IsImmediate}
use Rattle.rv_isa.proofs.TwosComplement.{unsigned-signed, IsSigned-signed}
use Rattle.rv_isa.specs.declared.instruction.ImmOp.{ImmOp}
use Rattle.rv_isa.specs.declared.instruction.ImmOp.TheVariants.{Addi, Slti, Sltiu, Xori, Ori, Andi, Slli, Srli, Srai}
use Rattle.rv_isa.specs.declared.instruction.BranchOp.{BranchOp}
use Rattle.rv_isa.specs.declared.instruction.BranchOp.TheVariants.{Beq, Bne, Blt, Bge, Bltu, Bgeu}
use Rattle.rv_isa.specs.declared.instruction.LoadOp.{LoadOp}
use Rattle.rv_isa.specs.declared.instruction.LoadOp.TheVariants.{Lb, Lh, Lw, Lbu, Lhu}
use Rattle.rv_isa.specs.declared.instruction.StoreOp.{StoreOp}
use Rattle.rv_isa.specs.declared.instruction.StoreOp.TheVariants.{Sb, Sh, Sw}
use Rattle.rv_isa.specs.declared.instruction.RegOp.{RegOp}
use Rattle.rv_isa.specs.declared.instruction.RegOp.TheVariants.{Add, Sub, Sll, Slt, Sltu, Xor, Srl, Sra, Or, And, Mul, Mulh, Mulhsu, Mulhu, Div, Divu, Rem, Remu}
use Rattle.rv_isa.specs.declared.instruction.Instr.{Instr}
use Rattle.rv_isa.specs.declared.instruction.Instr.TheVariants.{Lui, Auipc, Jal, Jalr, Fence, Ecall, Ebreak}
use Rattle.std.proofs.lemmas.Bool.{and_parts}

-- a word that the row has is the word of what the row reads
record IsBack (w : ℕ) (row : Row) : Type 0 where
  pub back : row.has w ≡ true → (instruction_word (row.reads w) ≡ w) × IsInstr (row.reads w)

and3 : (a b c : Bool) → (a && b && c) ≡ true → (a ≡ true) × (b ≡ true) × (c ≡ true)
and3 true true c h = (refl, refl, h)
and3 true false c h = cc
and3 false b c h = cc

same : (a b : ℕ) → (a == b) ≡ true → a ≡ b
same a b h = grind (arith, common_steps)

back_j : (w : ℕ) → w < 2 ^ 32 → bits 0 7 w ≡ 111 → (instruction_word (Jal (rd w) (j_immediate w)) ≡ w) × IsInstr (Jal (rd w) (j_immediate w))
back_j w small op =
    let u = bits 31 1 w * 1048576 + bits 12 8 w * 4096 + bits 20 1 w * 2048 + bits 21 10 w * 2 in
    let fits : u < 2 ^ 21 = omega arith in
    let same_bits : unsigned 21 (signed 21 u) ≡ u = unsigned-signed 21 u (omega arith) fits in
    (rw same_bits (omega arith), (omega arith, (IsSigned-signed 21 u (omega arith) fits, rw same_bits (omega arith))))

back_b : (w : ℕ) (op : BranchOp) → w < 2 ^ 32 → bits 0 7 w ≡ 99 → bits 12 3 w ≡ branch_funct3 op → (instruction_word ((branch (branch_funct3 op) op).reads w) ≡ w) × IsInstr ((branch (branch_funct3 op) op).reads w)
back_b w o small op f =
    let u = bits 31 1 w * 4096 + bits 7 1 w * 2048 + bits 25 6 w * 32 + bits 8 4 w * 2 in
    let fits : u < 2 ^ 13 = omega arith in
    let same_bits : unsigned 13 (signed 13 u) ≡ u = unsigned-signed 13 u (omega arith) fits in
    (rw (same_bits, ← f) (omega arith), (omega arith, omega arith, (IsSigned-signed 13 u (omega arith) fits, rw same_bits (omega arith))))

-- the six rows of plain immediates
back_i : (w : ℕ) (o : ImmOp) → bits 12 3 w ≡ imm_funct3 o → imm_bits o (signed 12 (bits 20 12 w)) ≡ bits 20 12 w → IsImmediate o (signed 12 (bits 20 12 w))
    → w < 2 ^ 32 → bits 0 7 w ≡ 19 → (instruction_word ((op_imm (imm_funct3 o) o).reads w) ≡ w) × IsInstr ((op_imm (imm_funct3 o) o).reads w)
back_i w o f same_bits fits small op = (rw (same_bits, ← f) (omega arith), (omega arith, omega arith, fits))

back_s : (w : ℕ) (o : ImmOp) (g : ℕ) → bits 12 3 w ≡ imm_funct3 o → bits 25 7 w ≡ g → imm_bits o (pos (bits 20 5 w)) ≡ g * 32 + bits 20 5 w → IsImmediate o (pos (bits 20 5 w))
    → w < 2 ^ 32 → bits 0 7 w ≡ 19 → (instruction_word ((shift_imm (imm_funct3 o) g o).reads w) ≡ w) × IsInstr ((shift_imm (imm_funct3 o) g o).reads w)
back_s w o g f e same_bits fits small op = (rw (same_bits, ← f, ← e) (omega arith), (omega arith, omega arith, fits))

i_bits : (w : ℕ) → unsigned 12 (signed 12 (bits 20 12 w)) ≡ bits 20 12 w
i_bits w = unsigned-signed 12 (bits 20 12 w) (omega arith) (omega arith)

i_fits : (w : ℕ) → IsSigned 12 (signed 12 (bits 20 12 w))
i_fits w = IsSigned-signed 12 (bits 20 12 w) (omega arith) (omega arith)

back_st : (w : ℕ) (o : StoreOp) → w < 2 ^ 32 → bits 0 7 w ≡ 35 → bits 12 3 w ≡ store_funct3 o → (instruction_word ((store (store_funct3 o) o).reads w) ≡ w) × IsInstr ((store (store_funct3 o) o).reads w)
back_st w o small e f =
    let u = bits 25 7 w * 32 + bits 7 5 w in
    let fits : u < 2 ^ 12 = omega arith in
    let same_bits : unsigned 12 (signed 12 u) ≡ u = unsigned-signed 12 u (omega arith) fits in
    (rw (same_bits, ← f) (omega arith), (omega arith, omega arith, IsSigned-signed 12 u (omega arith) fits))

row_load : (w : ℕ) (o : LoadOp) → w < 2 ^ 32 → IsBack w (load (load_funct3 o) o)
row_load w o small = record { back = λ h. let e = and_parts _ _ h in let op : bits 0 7 w ≡ 3 = same _ _ e.0 in let f : bits 12 3 w ≡ load_funct3 o = same _ _ e.1 in (rw (i_bits w, ← f) (omega arith), (omega arith, omega arith, i_fits w)) }

row_st : (w : ℕ) (o : StoreOp) → w < 2 ^ 32 → IsBack w (store (store_funct3 o) o)
row_st w o small = record { back = λ h. let e = and_parts _ _ h in back_st w o small (same _ _ e.0) (same _ _ e.1) }

row_op : (w : ℕ) (o : RegOp) → w < 2 ^ 32 → IsBack w (op (op_funct3 o) (op_funct7 o) o)
row_op w o small = record { back = λ h. let e = and3 _ _ _ h in let code : bits 0 7 w ≡ 51 = same _ _ e.0 in let f : bits 12 3 w ≡ op_funct3 o = same _ _ e.1 in let g : bits 25 7 w ≡ op_funct7 o = same _ _ e.2 in (rw (← f, ← g) (omega arith), (omega arith, omega arith, omega arith)) }

back_jalr : (w : ℕ) → w < 2 ^ 32 → bits 0 7 w ≡ 103 → bits 12 3 w ≡ 0 → (instruction_word (Jalr (rd w) (rs1 w) (i_immediate w)) ≡ w) × IsInstr (Jalr (rd w) (rs1 w) (i_immediate w))
back_jalr w small op f = (rw (i_bits w) (omega arith), (omega arith, omega arith, i_fits w))

row_b : (w : ℕ) (o : BranchOp) → w < 2 ^ 32 → IsBack w (branch (branch_funct3 o) o)
row_b w o small = record { back = λ h. let e = and_parts _ _ h in back_b w o small (same _ _ e.0) (same _ _ e.1) }

row_i : (w : ℕ) (o : ImmOp) → imm_bits o (signed 12 (bits 20 12 w)) ≡ bits 20 12 w → IsImmediate o (signed 12 (bits 20 12 w)) → w < 2 ^ 32 → IsBack w (op_imm (imm_funct3 o) o)
row_i w o same_bits fits small = record { back = λ h. let e = and_parts _ _ h in back_i w o (same _ _ e.1) same_bits fits small (same _ _ e.0) }

row_s : (w : ℕ) (o : ImmOp) (g : ℕ) → imm_bits o (pos (bits 20 5 w)) ≡ g * 32 + bits 20 5 w → IsImmediate o (pos (bits 20 5 w)) → w < 2 ^ 32 → IsBack w (shift_imm (imm_funct3 o) g o)
row_s w o g same_bits fits small = record { back = λ h. let e = and3 _ _ _ h in back_s w o g (same _ _ e.1) (same _ _ e.2) same_bits fits small (same _ _ e.0) }

infixr 5 ◌⨾◌
data AllBack (w : ℕ) : List Row → Type 0 where
  no_more : AllBack w []
  ◌⨾◌ : {row : Row} {rows : List Row} → IsBack w row → AllBack w rows → AllBack w (row ∷ rows)

read_back : (rows : List Row) (w : ℕ) (i : Instr) → AllBack w rows → read_by rows w ≡ Some i → (instruction_word i ≡ w) × IsInstr i
read_back [] w i all h = cc
read_back (row ∷ rows) w i (first ⨾ rest) h =
    elim (row.has w) as (λ b. row.has w ≡ b → cond b (Some (row.reads w)) (read_by rows w) ≡ Some i → (instruction_word i ≡ w) × IsInstr i)
    [ true ↦ λ e h. subst (λ (j : Instr). (instruction_word j ≡ w) × IsInstr j) (cc) (first.back e) | false ↦ λ e h. read_back rows w i rest h ] refl h

row_lui : (w : ℕ) → w < 2 ^ 32 → IsBack w (by_opcode 0b0110111 (λ v. Lui (rd v) (u_immediate v)))
row_lui w small = record { back = λ h. let op : bits 0 7 w ≡ 55 = same _ _ h in (omega arith, (omega arith, omega arith)) }

row_auipc : (w : ℕ) → w < 2 ^ 32 → IsBack w (by_opcode 0b0010111 (λ v. Auipc (rd v) (u_immediate v)))
row_auipc w small = record { back = λ h. let op : bits 0 7 w ≡ 23 = same _ _ h in (omega arith, (omega arith, omega arith)) }

row_jal : (w : ℕ) → w < 2 ^ 32 → IsBack w (by_opcode 0b1101111 (λ v. Jal (rd v) (j_immediate v)))
row_jal w small = record { back = λ h. back_j w small (same _ _ h) }

row_jalr : (w : ℕ) → w < 2 ^ 32 → IsBack w (by_funct3 0b1100111 0b000 (λ v. Jalr (rd v) (rs1 v) (i_immediate v)))
row_jalr w small = record { back = λ h. let e = and_parts _ _ h in back_jalr w small (same _ _ e.0) (same _ _ e.1) }

row_fence : (w : ℕ) → w < 2 ^ 32 → IsBack w (by_funct3 0b0001111 0b000 (λ v. Fence (rd v) (rs1 v) (bits 20 12 v)))
row_fence w small = record { back = λ h. let e = and_parts _ _ h in let o : bits 0 7 w ≡ 15 = same _ _ e.0 in let f : bits 12 3 w ≡ 0 = same _ _ e.1 in (omega arith, (omega arith, omega arith, omega arith)) }

row_ecall : (w : ℕ) → IsBack w (by_word 0x00000073 Ecall)
row_ecall w = record { back = λ h. (sym (same _ _ h), tt) }

row_ebreak : (w : ℕ) → IsBack w (by_word 0x00100073 Ebreak)
row_ebreak w = record { back = λ h. (sym (same _ _ h), tt) }

table_back : (w : ℕ) → w < 2 ^ 32 → AllBack w table
table_back w small =
    row_lui w small ⨾ row_auipc w small ⨾ row_jal w small ⨾ row_jalr w small ⨾
    row_b w Beq small ⨾ row_b w Bne small ⨾ row_b w Blt small ⨾ row_b w Bge small ⨾ row_b w Bltu small ⨾ row_b w Bgeu small ⨾
    row_load w Lb small ⨾ row_load w Lh small ⨾ row_load w Lw small ⨾ row_load w Lbu small ⨾ row_load w Lhu small ⨾
    row_st w Sb small ⨾ row_st w Sh small ⨾ row_st w Sw small ⨾
    row_i w Addi (i_bits w) (i_fits w) small ⨾ row_i w Slti (i_bits w) (i_fits w) small ⨾ row_i w Sltiu (i_bits w) (i_fits w) small ⨾
    row_i w Xori (i_bits w) (i_fits w) small ⨾ row_i w Ori (i_bits w) (i_fits w) small ⨾ row_i w Andi (i_bits w) (i_fits w) small ⨾
    row_s w Slli 0 (omega arith) (omega arith) small ⨾ row_s w Srli 0 (omega arith) (omega arith) small ⨾ row_s w Srai 32 (omega arith) (omega arith) small ⨾
    row_op w Add small ⨾ row_op w Sub small ⨾ row_op w Sll small ⨾ row_op w Slt small ⨾ row_op w Sltu small ⨾
    row_op w Xor small ⨾ row_op w Srl small ⨾ row_op w Sra small ⨾ row_op w Or small ⨾ row_op w And small ⨾
    row_op w Mul small ⨾ row_op w Mulh small ⨾ row_op w Mulhsu small ⨾ row_op w Mulhu small ⨾
    row_op w Div small ⨾ row_op w Divu small ⨾ row_op w Rem small ⨾ row_op w Remu small ⨾
    row_fence w small ⨾ row_ecall w ⨾ row_ebreak w ⨾ no_more

-- what the table reads is an instruction, and its word is the word that was read
pub word_back : (w : ℕ) (i : Instr) → w < 2 ^ 32 → instruction_of w ≡ Some i → (instruction_word i ≡ w) × IsInstr i
unfolding instruction_of
word_back w i small h = read_back table w i (table_back w small) h

pub ranges : (w : ℕ) (found : Option Instr) → w < 2 ^ 32 → found ≡ instruction_of w → IfSome found IsInstr
unfolding instruction_of
ranges w None small e = tt
ranges w (Some i) small e = (word_back w i small (sym e)).1

-- the table reads nothing exactly where no row has the word
lacking : (rows : List Row) (w : ℕ) → IsNone (read_by rows w) → All (λ row. row.has w ≡ false) rows
lacking [] w h = All-nil (λ row. row.has w ≡ false)
lacking (row ∷ rows) w h =
    elim (row.has w) as (λ b. row.has w ≡ b → IsNone (cond b (Some (row.reads w)) (read_by rows w)) → All (λ row. row.has w ≡ false) (row ∷ rows))
    [ true ↦ λ e n. cc | false ↦ λ e n. All-cons (λ row. row.has w ≡ false) row rows e (lacking rows w n) ] refl h

none_read : (rows : List Row) (w : ℕ) → All (λ row. row.has w ≡ false) rows → IsNone (read_by rows w)
none_read [] w all = refl
none_read (row ∷ rows) w all =
    let e : row.has w ≡ false = All-head (λ row. row.has w ≡ false) row rows all in
    rw e (none_read rows w (All-tail (λ row. row.has w ≡ false) row rows all))

pub no_row : (w : ℕ) → IsNone (instruction_of w) ↔ HasNoRow w
unfolding instruction_of
no_row w = (lacking table w, none_read table w)
