-- The range of a value is what its instruction has room for.
use Rattle.std.proofs.Common.{◌≡◌, ◌<◌, ◌%◌, ◌&&◌, Bool, true, false, refl, arith, pos, negsuc, ℤ, ltb, leb, eqb}
use Rattle.std.proofs.lemmas.Bool.{ltb-true, leb-true, eqb-true, lt-ltb, le-leb, eq-eqb, and_parts, and_from}
use Rattle.rv_isa.specs.Fields.{unsigned, IsSigned}
use Rattle.rv_isa.specs.Ranges.{IsInstr, IsOffset, IsAmount, IsImmediate}
use Rattle.rv_isa.specs.declared.instruction.ImmOp.{ImmOp}
use Rattle.rv_isa.specs.declared.instruction.ImmOp.TheVariants.{Addi, Slti, Sltiu, Xori, Ori, Andi, Slli, Srli, Srai}
use Rattle.rv_isa.specs.declared.instruction.Instr.{Instr}
use Rattle.rv_isa.specs.declared.instruction.Instr.TheVariants.{Lui, Auipc, Jal, Jalr, Branch, Load, Store, OpImm, Op, Fence, Ecall, Ebreak}
use Rattle.rv_asm.specs.Numbers.{is_within, is_even, is_word}
use Rattle.rv_asm.specs.Fields.{fits, immediate_fits, with_value}

-- ---- what is in range has its field

short : (z : ℤ) → is_within 2048 2047 z ≡ true → IsSigned 12 z
short (pos n) e = let h = leb-true n 2047 e in omega arith
short (negsuc n) e = ltb-true n 2048 e

branch_offset : (z : ℤ) → (is_within 4096 4094 z && is_even z) ≡ true → IsOffset 13 z
branch_offset (pos n) e =
    let p = and_parts (leb n 4094) (eqb (n % 2) 0) e in
    let h = leb-true n 4094 p.0 in
    (omega arith, eqb-true (n % 2) 0 p.1)
branch_offset (negsuc n) e =
    let p = and_parts (ltb n 4096) (eqb (n % 2) 1) e in
    let h = ltb-true n 4096 p.0 in
    let odd = eqb-true (n % 2) 1 p.1 in
    (h, omega arith)

jump_offset : (z : ℤ) → (is_within 1048576 1048574 z && is_even z) ≡ true → IsOffset 21 z
jump_offset (pos n) e =
    let p = and_parts (leb n 1048574) (eqb (n % 2) 0) e in
    let h = leb-true n 1048574 p.0 in
    (omega arith, eqb-true (n % 2) 0 p.1)
jump_offset (negsuc n) e =
    let p = and_parts (ltb n 1048576) (eqb (n % 2) 1) e in
    let h = ltb-true n 1048576 p.0 in
    let odd = eqb-true (n % 2) 1 p.1 in
    (h, omega arith)

amount : (z : ℤ) → is_within 0 31 z ≡ true → IsAmount z
amount (pos n) e = let h = leb-true n 31 e in omega arith
amount (negsuc n) e = let h = ltb-true n 0 e in absurd (omega arith)

upper : (z : ℤ) → is_within 0 1048575 z ≡ true → unsigned 32 z < 1048576
upper (pos n) e = let h = leb-true n 1048575 e in omega arith
upper (negsuc n) e = let h = ltb-true n 0 e in absurd (omega arith)

immediate : (op : ImmOp) (z : ℤ) → immediate_fits op z ≡ true → IsImmediate op z
immediate Addi z e = short z e
immediate Slti z e = short z e
immediate Sltiu z e = short z e
immediate Xori z e = short z e
immediate Ori z e = short z e
immediate Andi z e = short z e
immediate Slli z e = amount z e
immediate Srli z e = amount z e
immediate Srai z e = amount z e

pub value_is_whole : (i : Instr) (z : ℤ) → IsInstr i → fits i z ≡ true → IsInstr (with_value z i)
value_is_whole (Lui rd imm) z h e = (h.0, upper z e)
value_is_whole (Auipc rd imm) z h e = (h.0, upper z e)
value_is_whole (Jal rd offset) z h e = (h.0, jump_offset z e)
value_is_whole (Jalr rd rs1 imm) z h e = (h.0, h.1, short z e)
value_is_whole (Branch op rs1 rs2 offset) z h e = (h.0, h.1, branch_offset z e)
value_is_whole (Load op rd rs1 imm) z h e = (h.0, h.1, short z e)
value_is_whole (Store op rs1 rs2 imm) z h e = (h.0, h.1, short z e)
value_is_whole (OpImm op rd rs1 imm) z h e = (h.0, h.1, immediate op z e)
value_is_whole (Op op rd rs1 rs2) z h e = h
value_is_whole (Fence rd rs1 bits) z h e = h
value_is_whole Ecall z h e = h
value_is_whole Ebreak z h e = h

-- ---- what has its field is in range

back_short : (z : ℤ) → IsSigned 12 z → is_within 2048 2047 z ≡ true
back_short (pos n) h = le-leb n 2047 (omega arith)
back_short (negsuc n) h = lt-ltb n 2048 (omega arith)

back_branch : (z : ℤ) → IsOffset 13 z → (is_within 4096 4094 z && is_even z) ≡ true
back_branch (pos n) h = and_from (leb n 4094) (eqb (n % 2) 0) (le-leb n 4094 (omega arith)) (eq-eqb (n % 2) 0 h.1)
back_branch (negsuc n) h = and_from (ltb n 4096) (eqb (n % 2) 1) (lt-ltb n 4096 (omega arith)) (eq-eqb (n % 2) 1 (omega arith))

back_jump : (z : ℤ) → IsOffset 21 z → (is_within 1048576 1048574 z && is_even z) ≡ true
back_jump (pos n) h = and_from (leb n 1048574) (eqb (n % 2) 0) (le-leb n 1048574 (omega arith)) (eq-eqb (n % 2) 0 h.1)
back_jump (negsuc n) h = and_from (ltb n 1048576) (eqb (n % 2) 1) (lt-ltb n 1048576 (omega arith)) (eq-eqb (n % 2) 1 (omega arith))

back_amount : (z : ℤ) → IsAmount z → is_within 0 31 z ≡ true
back_amount (pos n) h = le-leb n 31 (omega arith)
back_amount (negsuc n) h = absurd h

back_upper : (z : ℤ) → is_word z ≡ true → unsigned 32 z < 1048576 → is_within 0 1048575 z ≡ true
back_upper (pos n) w h = le-leb n 1048575 (omega arith)
back_upper (negsuc n) w h = let small = ltb-true n 2147483648 w in absurd (omega arith)

back_immediate : (op : ImmOp) (z : ℤ) → IsImmediate op z → immediate_fits op z ≡ true
back_immediate Addi z h = back_short z h
back_immediate Slti z h = back_short z h
back_immediate Sltiu z h = back_short z h
back_immediate Xori z h = back_short z h
back_immediate Ori z h = back_short z h
back_immediate Andi z h = back_short z h
back_immediate Slli z h = back_amount z h
back_immediate Srli z h = back_amount z h
back_immediate Srai z h = back_amount z h

pub whole_value_fits : (i : Instr) (z : ℤ) → is_word z ≡ true → IsInstr (with_value z i) → fits i z ≡ true
whole_value_fits (Lui rd imm) z w h = back_upper z w h.1
whole_value_fits (Auipc rd imm) z w h = back_upper z w h.1
whole_value_fits (Jal rd offset) z w h = back_jump z h.1
whole_value_fits (Jalr rd rs1 imm) z w h = back_short z h.2
whole_value_fits (Branch op rs1 rs2 offset) z w h = back_branch z h.2
whole_value_fits (Load op rd rs1 imm) z w h = back_short z h.2
whole_value_fits (Store op rs1 rs2 imm) z w h = back_short z h.2
whole_value_fits (OpImm op rd rs1 imm) z w h = back_immediate op z h.2
whole_value_fits (Op op rd rs1 rs2) z w h = refl
whole_value_fits (Fence rd rs1 bits) z w h = refl
whole_value_fits Ecall z w h = refl
whole_value_fits Ebreak z w h = refl
