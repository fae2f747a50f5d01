-- The table reads the word of an instruction as that instruction.
use Rattle.std.proofs.Common.{◌≡◌, ℕ, ◌+◌, ◌*◌, ◌<◌, ℤ, pos, negsuc, arith, refl, ◌∙◌, Some, ap}
use Rattle.rv_isa.specs.Fields.{bits, signed, unsigned, IsSigned}
use Rattle.rv_isa.specs.Words.{instruction_word, imm_funct3, branch_funct3, load_funct3, store_funct3, op_funct3, op_funct7, imm_bits}
use Rattle.rv_isa.specs.Formats.{i_immediate, s_immediate, b_immediate, j_immediate}
use Rattle.rv_isa.specs.Table.{instruction_of}
use Rattle.rv_isa.specs.Ranges.{IsReg, IsInstr}
use Rattle.rv_isa.proofs.TwosComplement.{signed-unsigned, unsigned_below}
use Rattle.rv_isa.proofs.Sums.{section_j, section_b, section_u, section_st, section_i, section_s}
use Rattle.rv_isa.specs.declared.instruction.Reg.{Reg}
use Rattle.rv_isa.specs.declared.instruction.ImmOp.{ImmOp}
use Rattle.rv_isa.specs.declared.instruction.ImmOp.TheVariants.{Addi, Slti, Sltiu, Xori, Ori, Andi, Slli, Srli, Srai}
use Rattle.rv_isa.specs.declared.instruction.BranchOp.{BranchOp}
use Rattle.rv_isa.specs.declared.instruction.BranchOp.TheVariants.{Beq, Bne, Blt, Bge, Bltu, Bgeu}
use Rattle.rv_isa.specs.declared.instruction.LoadOp.{LoadOp}
use Rattle.rv_isa.specs.declared.instruction.LoadOp.TheVariants.{Lb, Lh, Lw, Lbu, Lhu}
use Rattle.rv_isa.specs.declared.instruction.StoreOp.{StoreOp}
use Rattle.rv_isa.specs.declared.instruction.StoreOp.TheVariants.{Sb, Sh, Sw}
use Rattle.rv_isa.specs.declared.instruction.RegOp.{RegOp}
use Rattle.rv_isa.specs.declared.instruction.RegOp.TheVariants.{Add, Sub, Sll, Slt, Sltu, Xor, Srl, Sra, Or, And, Mul, Mulh, Mulhsu, Mulhu, Div, Divu, Rem, Remu}
use Rattle.rv_isa.specs.declared.instruction.Instr.{Instr}
use Rattle.rv_isa.specs.declared.instruction.Instr.TheVariants.{Lui, Auipc, Jal, Jalr, Branch, Load, Store, OpImm, Op, Fence, Ecall, Ebreak}

reads_j : (w r : ℕ) (z : ℤ) → bits 0 7 w ≡ 111 → bits 7 5 w ≡ r → j_immediate w ≡ z → instruction_of w ≡ Some (Jal (record { 0 = r }) z)
unfolding instruction_of
reads_j w r z a b c = rw (a, b, c) refl

reads_b : (w r s : ℕ) (o : BranchOp) (z : ℤ) → bits 0 7 w ≡ 99 → bits 12 3 w ≡ branch_funct3 o → bits 15 5 w ≡ r → bits 20 5 w ≡ s → b_immediate w ≡ z
    → instruction_of w ≡ Some (Branch o (record { 0 = r }) (record { 0 = s }) z)
unfolding instruction_of
reads_b w r s Beq z a f b c d = rw (a, f, b, c, d) refl
reads_b w r s Bne z a f b c d = rw (a, f, b, c, d) refl
reads_b w r s Blt z a f b c d = rw (a, f, b, c, d) refl
reads_b w r s Bge z a f b c d = rw (a, f, b, c, d) refl
reads_b w r s Bltu z a f b c d = rw (a, f, b, c, d) refl
reads_b w r s Bgeu z a f b c d = rw (a, f, b, c, d) refl

IsPlain : ImmOp → Type 0
IsPlain Slli = ⊥
IsPlain Srli = ⊥
IsPlain Srai = ⊥
IsPlain _ = Unit {0}

reads_i : (w r s : ℕ) (o : ImmOp) (z : ℤ) → IsPlain o → bits 0 7 w ≡ 19 → bits 12 3 w ≡ imm_funct3 o → bits 7 5 w ≡ r → bits 15 5 w ≡ s → i_immediate w ≡ z
    → instruction_of w ≡ Some (OpImm o (record { 0 = r }) (record { 0 = s }) z)
unfolding IsPlain instruction_of
reads_i w r s Addi z p a f b c d = rw (a, f, b, c, d) refl
reads_i w r s Slti z p a f b c d = rw (a, f, b, c, d) refl
reads_i w r s Sltiu z p a f b c d = rw (a, f, b, c, d) refl
reads_i w r s Xori z p a f b c d = rw (a, f, b, c, d) refl
reads_i w r s Ori z p a f b c d = rw (a, f, b, c, d) refl
reads_i w r s Andi z p a f b c d = rw (a, f, b, c, d) refl
reads_i w r s Slli z p a f b c d = elim p [ ]
reads_i w r s Srli z p a f b c d = elim p [ ]
reads_i w r s Srai z p a f b c d = elim p [ ]

word_i : (r s : Reg) (o : ImmOp) (z : ℤ) → IsPlain o → IsReg r → IsReg s → IsSigned 12 z → imm_funct3 o < 8 → imm_bits o z ≡ unsigned 12 z
    → instruction_of (instruction_word (OpImm o r s z)) ≡ Some (OpImm o r s z)
unfolding instruction_of
word_i r s o z p a b ok f same_bits =
    rw same_bits (
    let e = section_i 19 r.0 (imm_funct3 o) s.0 (unsigned 12 z) (omega arith) a f b (unsigned_below 12 z (omega arith) ok) in
    reads_i _ _ _ o z p e.0 e.2 e.1 e.3 (ap (signed 12) e.4 ∙ signed-unsigned 12 z (omega arith) ok))

word_s : (r s : Reg) (n : ℕ) → IsReg r → IsReg s → n < 32
    → (instruction_of (instruction_word (OpImm Slli r s (pos n))) ≡ Some (OpImm Slli r s (pos n)))
    × (instruction_of (instruction_word (OpImm Srli r s (pos n))) ≡ Some (OpImm Srli r s (pos n)))
    × (instruction_of (instruction_word (OpImm Srai r s (pos n))) ≡ Some (OpImm Srai r s (pos n)))
unfolding instruction_of
word_s r s n a b c =
    let e = section_s 19 r.0 1 s.0 n 0 n (omega arith) (omega arith) a (omega arith) b (omega arith) c in
    let f = section_s 19 r.0 5 s.0 n 0 n (omega arith) (omega arith) a (omega arith) b (omega arith) c in
    let g = section_s 19 r.0 5 s.0 (1024 + n) 32 n (omega arith) (omega arith) a (omega arith) b (omega arith) c in
    (rw (e.0, e.2, e.5, e.1, e.3, e.4) refl, rw (f.0, f.2, f.5, f.1, f.3, f.4) refl, rw (g.0, g.2, g.5, g.1, g.3, g.4) refl)

reads_load : (w r s : ℕ) (o : LoadOp) (z : ℤ) → bits 0 7 w ≡ 3 → bits 12 3 w ≡ load_funct3 o → bits 7 5 w ≡ r → bits 15 5 w ≡ s → i_immediate w ≡ z
    → instruction_of w ≡ Some (Load o (record { 0 = r }) (record { 0 = s }) z)
unfolding instruction_of
reads_load w r s Lb z a f b c d = rw (a, f, b, c, d) refl
reads_load w r s Lh z a f b c d = rw (a, f, b, c, d) refl
reads_load w r s Lw z a f b c d = rw (a, f, b, c, d) refl
reads_load w r s Lbu z a f b c d = rw (a, f, b, c, d) refl
reads_load w r s Lhu z a f b c d = rw (a, f, b, c, d) refl

reads_store : (w r s : ℕ) (o : StoreOp) (z : ℤ) → bits 0 7 w ≡ 35 → bits 12 3 w ≡ store_funct3 o → bits 15 5 w ≡ r → bits 20 5 w ≡ s → s_immediate w ≡ z
    → instruction_of w ≡ Some (Store o (record { 0 = r }) (record { 0 = s }) z)
unfolding instruction_of
reads_store w r s Sb z a f b c d = rw (a, f, b, c, d) refl
reads_store w r s Sh z a f b c d = rw (a, f, b, c, d) refl
reads_store w r s Sw z a f b c d = rw (a, f, b, c, d) refl

reads_op : (w r s t : ℕ) (o : RegOp) → bits 0 7 w ≡ 51 → bits 12 3 w ≡ op_funct3 o → bits 25 7 w ≡ op_funct7 o → bits 7 5 w ≡ r → bits 15 5 w ≡ s → bits 20 5 w ≡ t
    → instruction_of w ≡ Some (Op o (record { 0 = r }) (record { 0 = s }) (record { 0 = t }))
unfolding instruction_of
reads_op w r s t Add a f g b c d = rw (a, f, g, b, c, d) refl
reads_op w r s t Sub a f g b c d = rw (a, f, g, b, c, d) refl
reads_op w r s t Sll a f g b c d = rw (a, f, g, b, c, d) refl
reads_op w r s t Slt a f g b c d = rw (a, f, g, b, c, d) refl
reads_op w r s t Sltu a f g b c d = rw (a, f, g, b, c, d) refl
reads_op w r s t Xor a f g b c d = rw (a, f, g, b, c, d) refl
reads_op w r s t Srl a f g b c d = rw (a, f, g, b, c, d) refl
reads_op w r s t Sra a f g b c d = rw (a, f, g, b, c, d) refl
reads_op w r s t Or a f g b c d = rw (a, f, g, b, c, d) refl
reads_op w r s t And a f g b c d = rw (a, f, g, b, c, d) refl
reads_op w r s t Mul a f g b c d = rw (a, f, g, b, c, d) refl
reads_op w r s t Mulh a f g b c d = rw (a, f, g, b, c, d) refl
reads_op w r s t Mulhsu a f g b c d = rw (a, f, g, b, c, d) refl
reads_op w r s t Mulhu a f g b c d = rw (a, f, g, b, c, d) refl
reads_op w r s t Div a f g b c d = rw (a, f, g, b, c, d) refl
reads_op w r s t Divu a f g b c d = rw (a, f, g, b, c, d) refl
reads_op w r s t Rem a f g b c d = rw (a, f, g, b, c, d) refl
reads_op w r s t Remu a f g b c d = rw (a, f, g, b, c, d) refl

load_small : (o : LoadOp) → load_funct3 o < 8
load_small Lb = omega arith
load_small Lh = omega arith
load_small Lw = omega arith
load_small Lbu = omega arith
load_small Lhu = omega arith

store_small : (o : StoreOp) → store_funct3 o < 8
store_small Sb = omega arith
store_small Sh = omega arith
store_small Sw = omega arith

op_small : (o : RegOp) → op_funct3 o < 8
op_small Add = omega arith
op_small Sub = omega arith
op_small Sll = omega arith
op_small Slt = omega arith
op_small Sltu = omega arith
op_small Xor = omega arith
op_small Srl = omega arith
op_small Sra = omega arith
op_small Or = omega arith
op_small And = omega arith
op_small Mul = omega arith
op_small Mulh = omega arith
op_small Mulhsu = omega arith
op_small Mulhu = omega arith
op_small Div = omega arith
op_small Divu = omega arith
op_small Rem = omega arith
op_small Remu = omega arith

op7_small : (o : RegOp) → op_funct7 o < 64
op7_small Add = omega arith
op7_small Sub = omega arith
op7_small Sll = omega arith
op7_small Slt = omega arith
op7_small Sltu = omega arith
op7_small Xor = omega arith
op7_small Srl = omega arith
op7_small Sra = omega arith
op7_small Or = omega arith
op7_small And = omega arith
op7_small Mul = omega arith
op7_small Mulh = omega arith
op7_small Mulhsu = omega arith
op7_small Mulhu = omega arith
op7_small Div = omega arith
op7_small Divu = omega arith
op7_small Rem = omega arith
op7_small Remu = omega arith

branch_small : (o : BranchOp) → branch_funct3 o < 8
branch_small Beq = omega arith
branch_small Bne = omega arith
branch_small Blt = omega arith
branch_small Bge = omega arith
branch_small Bltu = omega arith
branch_small Bgeu = omega arith

pub read_word : (i : Instr) → IsInstr i → instruction_of (instruction_word i) ≡ Some i
unfolding IsPlain instruction_of
read_word (Jal r z) ok =
    let e = section_j r.0 (unsigned 21 z) ok.0 (unsigned_below 21 z (omega arith) ok.1.0) ok.1.1 in
    reads_j _ _ z e.0 e.1 (ap (signed 21) e.2 ∙ signed-unsigned 21 z (omega arith) ok.1.0)
read_word (Branch o r s z) ok =
    let e = section_b (branch_funct3 o) r.0 s.0 (unsigned 13 z) (branch_small o) ok.0 ok.1 (unsigned_below 13 z (omega arith) ok.2.0) ok.2.1 in
    reads_b _ _ _ o z e.0 e.1 e.2 e.3 (ap (signed 13) e.4 ∙ signed-unsigned 13 z (omega arith) ok.2.0)
read_word (OpImm Addi r s z) ok = word_i r s Addi z tt ok.0 ok.1 ok.2 (omega arith) refl
read_word (OpImm Slti r s z) ok = word_i r s Slti z tt ok.0 ok.1 ok.2 (omega arith) refl
read_word (OpImm Sltiu r s z) ok = word_i r s Sltiu z tt ok.0 ok.1 ok.2 (omega arith) refl
read_word (OpImm Xori r s z) ok = word_i r s Xori z tt ok.0 ok.1 ok.2 (omega arith) refl
read_word (OpImm Ori r s z) ok = word_i r s Ori z tt ok.0 ok.1 ok.2 (omega arith) refl
read_word (OpImm Andi r s z) ok = word_i r s Andi z tt ok.0 ok.1 ok.2 (omega arith) refl
read_word (OpImm Slli r s (pos n)) ok = (word_s r s n ok.0 ok.1 ok.2).0
read_word (OpImm Srli r s (pos n)) ok = (word_s r s n ok.0 ok.1 ok.2).1
read_word (OpImm Srai r s (pos n)) ok = (word_s r s n ok.0 ok.1 ok.2).2
read_word (OpImm Slli r s (negsuc n)) ok = elim ok.2 [ ]
read_word (OpImm Srli r s (negsuc n)) ok = elim ok.2 [ ]
read_word (OpImm Srai r s (negsuc n)) ok = elim ok.2 [ ]
read_word Ecall ok = refl
read_word Ebreak ok = refl
read_word (Lui r u) ok = let e = section_u 55 r.0 u (omega arith) ok.0 ok.1 in rw (e.0, e.1, e.2) refl
read_word (Auipc r u) ok = let e = section_u 23 r.0 u (omega arith) ok.0 ok.1 in rw (e.0, e.1, e.2) refl
read_word (Jalr r s z) ok =
    let e = section_i 103 r.0 0 s.0 (unsigned 12 z) (omega arith) ok.0 (omega arith) ok.1 (unsigned_below 12 z (omega arith) ok.2) in
    rw (e.0, e.2, e.1, e.3, e.4, signed-unsigned 12 z (omega arith) ok.2) refl
read_word (Load o r s z) ok =
    let e = section_i 3 r.0 (load_funct3 o) s.0 (unsigned 12 z) (omega arith) ok.0 (load_small o) ok.1 (unsigned_below 12 z (omega arith) ok.2) in
    reads_load _ _ _ o z e.0 e.2 e.1 e.3 (ap (signed 12) e.4 ∙ signed-unsigned 12 z (omega arith) ok.2)
read_word (Store o r s z) ok =
    let e = section_st (store_funct3 o) r.0 s.0 (unsigned 12 z) (store_small o) ok.0 ok.1 (unsigned_below 12 z (omega arith) ok.2) in
    reads_store _ _ _ o z e.0 e.1 e.2 e.3 (ap (signed 12) e.4 ∙ signed-unsigned 12 z (omega arith) ok.2)
read_word (Op o r s t) ok =
    let e = section_s 51 r.0 (op_funct3 o) s.0 (op_funct7 o * 32 + t.0) (op_funct7 o) t.0 (omega arith) refl ok.0 (op_small o) ok.1 (omega (arith, op7_small o)) ok.2 in
    reads_op _ _ _ _ o e.0 e.2 e.5 e.1 e.3 e.4
read_word (Fence r s u) ok =
    let e = section_i 15 r.0 0 s.0 u (omega arith) ok.0 (omega arith) ok.1 ok.2 in
    rw (e.0, e.2, e.1, e.3, e.4) refl
