-- Operands that were written fill the fields from which they were written.
use Rattle.std.proofs.Common.{◌≡◌, ℕ, zero, suc, ◌+◌, ◌<◌, true, false, ℤ, pos, negsuc, List, [], ◌∷◌, ◌++◌, length, map, drop, Some, refl, sym, ap, ◌∙◌, eqb, arith, append_assoc, length-append, codes}
use Rattle.std.specs.List.{list_all, before_first, after_first, position_or_len}
use Rattle.std.specs.Fmt.{signed_decimal}
use Rattle.std.proofs.lemmas.Bool.{ne_eqb}
use Rattle.std.proofs.lemmas.List.{take_at, drop_at}
use Rattle.std.proofs.lemmas.List.Folds.{list_all-append}
use Rattle.rv_isa.specs.Fields.{IsSigned}
use Rattle.rv_isa.specs.Names.{register_name}
use Rattle.rv_isa.specs.Ranges.{IsInstr, IsImmediate}
use Rattle.rv_isa.specs.Texts.{rd_of, rs1_of, rs2_of, number_of, operand_text}
use Rattle.rv_isa.specs.declared.syntax.Operand.{Operand}
use Rattle.rv_isa.specs.declared.syntax.Operand.TheVariants.{Rd, Rs1, Rs2, Immediate, Target, Memory}
use Rattle.rv_isa.specs.declared.instruction.Reg.{Reg}
use Rattle.rv_isa.specs.declared.instruction.ImmOp.{ImmOp}
use Rattle.rv_isa.specs.declared.instruction.ImmOp.TheVariants.{Addi, Slti, Sltiu, Xori, Ori, Andi, Slli, Srli, Srai}
use Rattle.rv_isa.specs.declared.instruction.Instr.{Instr}
use Rattle.rv_isa.specs.declared.instruction.Instr.TheVariants.{Lui, Auipc, Jal, Jalr, Branch, Load, Store, OpImm, Op, Fence, Ecall, Ebreak}
use Rattle.rv_asm.specs.Fields.{with_rd, with_rs1, with_rs2}
use Rattle.rv_asm.specs.Registers.{register_of}
use Rattle.rv_asm.specs.Operands.{Open, opened, Number, parenthesis, before_end, address_of, fill, filled}
use Rattle.rv_asm.proofs.Tokens.{is_inner, is_token, token_inner, front, operand_is}
use Rattle.rv_asm.proofs.WrittenNumbers.{IsShort, is_number_byte, number_byte_range, number_back, number_bytes, number_inner, number_token, target_back}

-- ---- registers

abbrev reg : ℕ → Reg
reg n = record { 0 = n }

record IsRegister (n : ℕ) : Type 0 where
  read : register_of (register_name (reg n)) ≡ Some (reg n)
  token : is_token (register_name (reg n)) ≡ true
  ended : before_end 41 (register_name (reg n) ++ 41 ∷ []) ≡ Some (register_name (reg n))

register_back : (n : ℕ) → n < 32 → IsRegister n
unfolding register_of
register_back zero lt = record { read = refl; token = refl; ended = refl }
register_back (suc zero) lt = record { read = refl; token = refl; ended = refl }
register_back (suc (suc zero)) lt = record { read = refl; token = refl; ended = refl }
register_back (suc (suc (suc zero))) lt = record { read = refl; token = refl; ended = refl }
register_back (suc (suc (suc (suc zero)))) lt = record { read = refl; token = refl; ended = refl }
register_back (suc (suc (suc (suc (suc zero))))) lt = record { read = refl; token = refl; ended = refl }
register_back (suc (suc (suc (suc (suc (suc zero)))))) lt = record { read = refl; token = refl; ended = refl }
register_back (suc (suc (suc (suc (suc (suc (suc zero))))))) lt = record { read = refl; token = refl; ended = refl }
register_back (suc (suc (suc (suc (suc (suc (suc (suc zero)))))))) lt = record { read = refl; token = refl; ended = refl }
register_back (suc (suc (suc (suc (suc (suc (suc (suc (suc zero))))))))) lt = record { read = refl; token = refl; ended = refl }
register_back (suc (suc (suc (suc (suc (suc (suc (suc (suc (suc zero)))))))))) lt = record { read = refl; token = refl; ended = refl }
register_back (suc (suc (suc (suc (suc (suc (suc (suc (suc (suc (suc zero))))))))))) lt = record { read = refl; token = refl; ended = refl }
register_back (suc (suc (suc (suc (suc (suc (suc (suc (suc (suc (suc (suc zero)))))))))))) lt = record { read = refl; token = refl; ended = refl }
register_back (suc (suc (suc (suc (suc (suc (suc (suc (suc (suc (suc (suc (suc zero))))))))))))) lt = record { read = refl; token = refl; ended = refl }
register_back (suc (suc (suc (suc (suc (suc (suc (suc (suc (suc (suc (suc (suc (suc zero)))))))))))))) lt = record { read = refl; token = refl; ended = refl }
register_back (suc (suc (suc (suc (suc (suc (suc (suc (suc (suc (suc (suc (suc (suc (suc zero))))))))))))))) lt = record { read = refl; token = refl; ended = refl }
register_back (suc (suc (suc (suc (suc (suc (suc (suc (suc (suc (suc (suc (suc (suc (suc (suc zero)))))))))))))))) lt = record { read = refl; token = refl; ended = refl }
register_back (suc (suc (suc (suc (suc (suc (suc (suc (suc (suc (suc (suc (suc (suc (suc (suc (suc zero))))))))))))))))) lt = record { read = refl; token = refl; ended = refl }
register_back (suc (suc (suc (suc (suc (suc (suc (suc (suc (suc (suc (suc (suc (suc (suc (suc (suc (suc zero)))))))))))))))))) lt = record { read = refl; token = refl; ended = refl }
register_back (suc (suc (suc (suc (suc (suc (suc (suc (suc (suc (suc (suc (suc (suc (suc (suc (suc (suc (suc zero))))))))))))))))))) lt = record { read = refl; token = refl; ended = refl }
register_back (suc (suc (suc (suc (suc (suc (suc (suc (suc (suc (suc (suc (suc (suc (suc (suc (suc (suc (suc (suc zero)))))))))))))))))))) lt = record { read = refl; token = refl; ended = refl }
register_back (suc (suc (suc (suc (suc (suc (suc (suc (suc (suc (suc (suc (suc (suc (suc (suc (suc (suc (suc (suc (suc zero))))))))))))))))))))) lt = record { read = refl; token = refl; ended = refl }
register_back (suc (suc (suc (suc (suc (suc (suc (suc (suc (suc (suc (suc (suc (suc (suc (suc (suc (suc (suc (suc (suc (suc zero)))))))))))))))))))))) lt = record { read = refl; token = refl; ended = refl }
register_back (suc (suc (suc (suc (suc (suc (suc (suc (suc (suc (suc (suc (suc (suc (suc (suc (suc (suc (suc (suc (suc (suc (suc zero))))))))))))))))))))))) lt = record { read = refl; token = refl; ended = refl }
register_back (suc (suc (suc (suc (suc (suc (suc (suc (suc (suc (suc (suc (suc (suc (suc (suc (suc (suc (suc (suc (suc (suc (suc (suc zero)))))))))))))))))))))))) lt = record { read = refl; token = refl; ended = refl }
register_back (suc (suc (suc (suc (suc (suc (suc (suc (suc (suc (suc (suc (suc (suc (suc (suc (suc (suc (suc (suc (suc (suc (suc (suc (suc zero))))))))))))))))))))))))) lt = record { read = refl; token = refl; ended = refl }
register_back (suc (suc (suc (suc (suc (suc (suc (suc (suc (suc (suc (suc (suc (suc (suc (suc (suc (suc (suc (suc (suc (suc (suc (suc (suc (suc zero)))))))))))))))))))))))))) lt = record { read = refl; token = refl; ended = refl }
register_back (suc (suc (suc (suc (suc (suc (suc (suc (suc (suc (suc (suc (suc (suc (suc (suc (suc (suc (suc (suc (suc (suc (suc (suc (suc (suc (suc zero))))))))))))))))))))))))))) lt = record { read = refl; token = refl; ended = refl }
register_back (suc (suc (suc (suc (suc (suc (suc (suc (suc (suc (suc (suc (suc (suc (suc (suc (suc (suc (suc (suc (suc (suc (suc (suc (suc (suc (suc (suc zero)))))))))))))))))))))))))))) lt = record { read = refl; token = refl; ended = refl }
register_back (suc (suc (suc (suc (suc (suc (suc (suc (suc (suc (suc (suc (suc (suc (suc (suc (suc (suc (suc (suc (suc (suc (suc (suc (suc (suc (suc (suc (suc zero))))))))))))))))))))))))))))) lt = record { read = refl; token = refl; ended = refl }
register_back (suc (suc (suc (suc (suc (suc (suc (suc (suc (suc (suc (suc (suc (suc (suc (suc (suc (suc (suc (suc (suc (suc (suc (suc (suc (suc (suc (suc (suc (suc zero)))))))))))))))))))))))))))))) lt = record { read = refl; token = refl; ended = refl }
register_back (suc (suc (suc (suc (suc (suc (suc (suc (suc (suc (suc (suc (suc (suc (suc (suc (suc (suc (suc (suc (suc (suc (suc (suc (suc (suc (suc (suc (suc (suc (suc zero))))))))))))))))))))))))))))))) lt = record { read = refl; token = refl; ended = refl }
register_back (suc (suc (suc (suc (suc (suc (suc (suc (suc (suc (suc (suc (suc (suc (suc (suc (suc (suc (suc (suc (suc (suc (suc (suc (suc (suc (suc (suc (suc (suc (suc (suc n)))))))))))))))))))))))))))))))) lt = absurd (omega arith)

-- ---- addresses

misses_parenthesis : (b : ℕ) → is_number_byte b ≡ true → parenthesis b ≡ false
misses_parenthesis b h = let r = number_byte_range b h in ne_eqb _ _ (omega arith)

opens_behind : (w rest : List ℕ) → list_all is_number_byte w ≡ true → position_or_len parenthesis (w ++ 40 ∷ rest) ≡ length w
opens_behind w rest e = front is_number_byte parenthesis misses_parenthesis w (40 ∷ rest) e ∙ omega arith

before_parenthesis : (w rest : List ℕ) → list_all is_number_byte w ≡ true → before_first parenthesis (w ++ 40 ∷ rest) ≡ w
before_parenthesis w rest e = rw (opens_behind w rest e) (take_at w (40 ∷ rest) (length w) refl)

after_parenthesis : (w rest : List ℕ) → list_all is_number_byte w ≡ true → after_first parenthesis (w ++ 40 ∷ rest) ≡ rest
after_parenthesis w rest e =
    rw (opens_behind w rest e) (
    ap (drop (length w + 1)) (sym (append_assoc w (40 ∷ []) rest)) ∙ drop_at (w ++ 40 ∷ []) rest (length w + 1) (omega (arith, length-append w (40 ∷ []))))

-- the number, and the register in parentheses
address_parts : (z : ℤ) (name : List ℕ) → signed_decimal z ++ codes "(" ++ name ++ codes ")" ≡ signed_decimal z ++ 40 ∷ (name ++ 41 ∷ [])
address_parts z name = append_assoc (signed_decimal z ++ 40 ∷ []) name (41 ∷ []) ∙ append_assoc (signed_decimal z) (40 ∷ []) (name ++ 41 ∷ [])

address_back : (z : ℤ) (n : ℕ) → IsShort z → n < 32 → address_of (signed_decimal z ++ codes "(" ++ register_name (reg n) ++ codes ")") ≡ Some (z, reg n)
unfolding address_of
address_back z n small lt =
    let so = register_back n lt in
    let bytes = number_bytes z small in
    let rest = register_name (reg n) ++ 41 ∷ [] in
    rw (address_parts z (register_name (reg n)), before_parenthesis (signed_decimal z) rest bytes, after_parenthesis (signed_decimal z) rest bytes, so.ended, number_back z small, so.read) refl

-- ---- operands

pub record IsPlain (i : Instr) : Type 0 where
  pub rd : (rd_of i).0 < 32
  pub rs1 : (rs1_of i).0 < 32
  pub rs2 : (rs2_of i).0 < 32
  pub number : IsShort (number_of i)

short_12 : (z : ℤ) → IsSigned 12 z → IsShort z
short_12 (pos n) h = omega arith
short_12 (negsuc n) h = omega arith

short_13 : (z : ℤ) → IsSigned 13 z → IsShort z
short_13 (pos n) h = omega arith
short_13 (negsuc n) h = omega arith

short_21 : (z : ℤ) → IsSigned 21 z → IsShort z
short_21 (pos n) h = omega arith
short_21 (negsuc n) h = omega arith

short_amount : (z : ℤ) → IsImmediate Slli z → IsShort z
short_amount (pos n) h = omega arith
short_amount (negsuc n) h = absurd h

short_immediate : (op : ImmOp) (z : ℤ) → IsImmediate op z → IsShort z
short_immediate Addi z h = short_12 z h
short_immediate Slti z h = short_12 z h
short_immediate Sltiu z h = short_12 z h
short_immediate Xori z h = short_12 z h
short_immediate Ori z h = short_12 z h
short_immediate Andi z h = short_12 z h
short_immediate Slli z h = short_amount z h
short_immediate Srli z h = short_amount z h
short_immediate Srai z h = short_amount z h

pub plain : (i : Instr) → IsInstr i → IsPlain i
plain (Lui rd imm) ok = record { rd = ok.0; rs1 = omega arith; rs2 = omega arith; number = let lt = ok.1 in omega arith }
plain (Auipc rd imm) ok = record { rd = ok.0; rs1 = omega arith; rs2 = omega arith; number = let lt = ok.1 in omega arith }
plain (Jal rd offset) ok = record { rd = ok.0; rs1 = omega arith; rs2 = omega arith; number = short_21 offset ok.1.0 }
plain (Jalr rd rs1 imm) ok = record { rd = ok.0; rs1 = ok.1; rs2 = omega arith; number = short_12 imm ok.2 }
plain (Branch op rs1 rs2 offset) ok = record { rd = omega arith; rs1 = ok.0; rs2 = ok.1; number = short_13 offset ok.2.0 }
plain (Load op rd rs1 imm) ok = record { rd = ok.0; rs1 = ok.1; rs2 = omega arith; number = short_12 imm ok.2 }
plain (Store op rs1 rs2 imm) ok = record { rd = omega arith; rs1 = ok.0; rs2 = ok.1; number = short_12 imm ok.2 }
plain (OpImm op rd rs1 imm) ok = record { rd = ok.0; rs1 = ok.1; rs2 = omega arith; number = short_immediate op imm ok.2 }
plain (Op op rd rs1 rs2) ok = record { rd = ok.0; rs1 = ok.1; rs2 = ok.2; number = omega arith }
plain (Fence rd rs1 bits) ok = record { rd = ok.0; rs1 = ok.1; rs2 = omega arith; number = omega arith }
plain Ecall ok = record { rd = omega arith; rs1 = omega arith; rs2 = omega arith; number = omega arith }
plain Ebreak ok = record { rd = omega arith; rs1 = omega arith; rs2 = omega arith; number = omega arith }

inner_token : (w : List ℕ) → list_all is_inner w ≡ true → 0 < length w → is_token w ≡ true
inner_token w e some = let filled_some : eqb (length w) 0 ≡ false = ne_eqb _ _ (omega arith) in rw (e, filled_some) refl

address_token : (z : ℤ) (n : ℕ) → IsShort z → n < 32 → is_token (signed_decimal z ++ codes "(" ++ register_name (reg n) ++ codes ")") ≡ true
address_token z n small lt =
    let number = number_inner (signed_decimal z) (number_bytes z small) in
    let name = token_inner (register_name (reg n)) (register_back n lt).token in
    rw (address_parts z (register_name (reg n))) (
    inner_token (signed_decimal z ++ 40 ∷ (register_name (reg n) ++ 41 ∷ []))
    (rw (list_all-append is_inner (signed_decimal z) (40 ∷ (register_name (reg n) ++ 41 ∷ [])), number, list_all-append is_inner (register_name (reg n)) (41 ∷ []), name) refl)
    (omega (arith, length-append (signed_decimal z) (40 ∷ (register_name (reg n) ++ 41 ∷ [])))))

pub operand_token : (i : Instr) → IsPlain i → (operand : Operand) → is_token (operand_text i operand) ≡ true
operand_token i so Rd = (register_back (rd_of i).0 so.rd).token
operand_token i so Rs1 = (register_back (rs1_of i).0 so.rs1).token
operand_token i so Rs2 = (register_back (rs2_of i).0 so.rs2).token
operand_token i so Immediate = number_token (number_of i) so.number
operand_token i so Target = number_token (number_of i) so.number
operand_token i so Memory = address_token (number_of i) (rs1_of i).0 so.number so.rs1

-- an operand's fields put into an instruction
abbrev pub put : Instr → Operand → Open → Open
put i Rd o = opened (with_rd (rd_of i) o.instr) o.value
put i Rs1 o = opened (with_rs1 (rs1_of i) o.instr) o.value
put i Rs2 o = opened (with_rs2 (rs2_of i) o.instr) o.value
put i Immediate o = opened o.instr (Number (number_of i))
put i Target o = opened o.instr (Number (number_of i))
put i Memory o = opened (with_rs1 (rs1_of i) o.instr) (Number (number_of i))

abbrev pub put_all : Instr → List Operand → Open → Open
put_all i [] o = o
put_all i (operand ∷ operands) o = put_all i operands (put i operand o)

fill_back : (i : Instr) → IsPlain i → (operand : Operand) (o : Open) → fill operand (operand_text i operand) o ≡ Some (put i operand o)
unfolding fill
fill_back i so Rd o = rw ((register_back (rd_of i).0 so.rd).read) refl
fill_back i so Rs1 o = rw ((register_back (rs1_of i).0 so.rs1).read) refl
fill_back i so Rs2 o = rw ((register_back (rs2_of i).0 so.rs2).read) refl
fill_back i so Immediate o = rw (number_back (number_of i) so.number) refl
fill_back i so Target o = rw (target_back (number_of i) so.number) refl
fill_back i so Memory o = rw (address_back (number_of i) (rs1_of i).0 so.number so.rs1) refl

pub filled_back : (i : Instr) → IsPlain i → (operands : List Operand) (o : Open) → filled operands (map (λ operand. 32 ∷ operand_text i operand) operands) o ≡ Some (put_all i operands o)
unfolding filled
filled_back i so [] o = refl
filled_back i so (operand ∷ operands) o =
    rw (operand_is (operand_text i operand) (operand_token i so operand), fill_back i so operand o) (filled_back i so operands (put i operand o))
