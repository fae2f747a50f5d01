-- The text of a word of code is a line of at most 30 bytes that ends no block.
use Rattle.std.proofs.Common.{◌≡◌, ℕ, zero, suc, ◌+◌, ◌<◌, ◌≤◌, ◌%◌, ◌/◌, ◌^◌, ◌&&◌, Bool, true, false, not, List, [], ◌∷◌, ◌++◌, length, map, get_or, Option, Some, None, ℤ, pos, negsuc, refl, sym, ap, ◌∙◌, ltb, leb, eqb, nat_eq, inl, inr, arith, length-append, codes}
use Rattle.std.specs.List.{list_all, flat_map, slice_split, AllByRecursion}
use Rattle.std.specs.Char.{digit_char}
use Rattle.std.specs.Fmt.{decimal, signed_decimal}
use Rattle.std.specs.Cmp.Lexicographic.{pointwise}
use Rattle.std.specs.Int.Signed.{mag}
use Rattle.std.proofs.lemmas.Bool.{and_parts, and_from, ne_eqb, leb-true, ltb-true, not-true, cases_Bool}
use Rattle.std.proofs.lemmas.Bool.Decides.{nat_tests}
use Rattle.std.proofs.lemmas.Fmt.{length_signed_le}
use Rattle.std.proofs.lemmas.List.{append-nil}
use Rattle.std.proofs.lemmas.List.Folds.{list_all-append}
use Rattle.std.proofs.lemmas.List.Splits.{slice_split_at}
use Rattle.plain_text.specs.Words.{is_blank, words_in, line_words}
use Rattle.rv_isa.specs.Names.{mnemonic_of, register_names, register_name}
use Rattle.rv_isa.specs.Ranges.{IsInstr, IsImmediate}
use Rattle.rv_isa.specs.Table.{instruction_of}
use Rattle.rv_isa.specs.Texts.{rd_of, rs1_of, rs2_of, number_of, operand_text, operands_text, raw_text, hexadecimal, line_text, text_of}
use Rattle.rv_isa.specs.declared.syntax.Operand.{Operand}
use Rattle.rv_isa.specs.declared.syntax.Operand.TheVariants.{Rd, Rs1, Rs2, Immediate, Target, Memory}
use Rattle.rv_isa.specs.declared.instruction.Reg.{Reg}
use Rattle.rv_isa.specs.declared.instruction.ImmOp.{ImmOp}
use Rattle.rv_isa.specs.declared.instruction.ImmOp.TheVariants.{Addi, Slti, Sltiu, Xori, Ori, Andi, Slli, Srli, Srai}
use Rattle.rv_isa.specs.declared.instruction.BranchOp.{BranchOp}
use Rattle.rv_isa.specs.declared.instruction.BranchOp.TheVariants.{Beq, Bne, Blt, Bge, Bltu, Bgeu}
use Rattle.rv_isa.specs.declared.instruction.LoadOp.{LoadOp}
use Rattle.rv_isa.specs.declared.instruction.LoadOp.TheVariants.{Lb, Lh, Lw, Lbu, Lhu}
use Rattle.rv_isa.specs.declared.instruction.StoreOp.{StoreOp}
use Rattle.rv_isa.specs.declared.instruction.StoreOp.TheVariants.{Sb, Sh, Sw}
use Rattle.rv_isa.specs.declared.instruction.RegOp.{RegOp}
use Rattle.rv_isa.specs.declared.instruction.RegOp.TheVariants.{Add, Sub, Sll, Slt, Sltu, Xor, Srl, Sra, Or, And, Mul, Mulh, Mulhsu, Mulhu, Div, Divu, Rem, Remu}
use Rattle.rv_isa.specs.declared.instruction.Instr.{Instr}
use Rattle.rv_isa.specs.declared.instruction.Instr.TheVariants.{Lui, Auipc, Jal, Jalr, Branch, Load, Store, OpImm, Op, Fence, Ecall, Ebreak}
use Rattle.script.specs.Sections.{ends}
use Rattle.script_text.proofs.WrittenLines.{is_line_byte, is_word_byte, IsWritten, IsLine, word_line, spaced_words, before_comment, no_blanks}
use Rattle.script_text.proofs.WrittenWords.{decimal_written}

-- bytes of a line, and at most so many
record IsPiece (most : ℕ) (l : List ℕ) : Type 0 where
  bytes : list_all is_line_byte l ≡ true
  few : length l ≤ most

piece-append : (m n : ℕ) (a b : List ℕ) → IsPiece m a → IsPiece n b → IsPiece (m + n) (a ++ b)
piece-append m n a b one two = record {
  bytes = list_all-append is_line_byte a b ∙ and_from (list_all is_line_byte a) (list_all is_line_byte b) one.bytes two.bytes;
  few = let f = one.few in let g = two.few in omega (arith, length-append a b);
}

piece-wider : (m n : ℕ) (a : List ℕ) → m ≤ n → IsPiece m a → IsPiece n a
piece-wider m n a h one = record { bytes = one.bytes; few = let f = one.few in omega arith }

-- ---- operands

abbrev is_short : List ℕ → Bool
is_short name = list_all is_line_byte name && leb (length name) 4

all_at : (names : List (List ℕ)) (k : ℕ) → list_all is_short names ≡ true → is_short (get_or names k []) ≡ true
all_at [] k e = refl
all_at (name ∷ names) zero e = (and_parts (is_short name) (list_all is_short names) e).0
all_at (name ∷ names) (suc k) e = all_at names k (and_parts (is_short name) (list_all is_short names) e).1

register_piece : (r : Reg) → IsPiece 4 (register_name r)
register_piece r =
    let h = and_parts (list_all is_line_byte (register_name r)) (leb (length (register_name r)) 4) (all_at register_names r.0 refl) in
    record { bytes = h.0; few = leb-true (length (register_name r)) 4 h.1 }

-- a number of an instruction
abbrev IsSmall : ℤ → Type 0
IsSmall z = mag z < 2 ^ 21

number_bytes : (z : ℤ) → IsSmall z → list_all is_line_byte (signed_decimal z) ≡ true
number_bytes (pos n) small = word_line (decimal n) (decimal_written n (omega arith)).bytes
number_bytes (negsuc n) small = word_line (decimal (suc n)) (decimal_written (suc n) (omega arith)).bytes

number_piece : (z : ℤ) → IsSmall z → IsPiece 11 (signed_decimal z)
number_piece z small = record { bytes = number_bytes z small; few = length_signed_le 10 z (omega arith) (omega arith) }

small_immediate : (op : ImmOp) (z : ℤ) → IsImmediate op z → IsSmall z
small_immediate Addi (pos n) h = omega arith
small_immediate Addi (negsuc n) h = omega arith
small_immediate Slti (pos n) h = omega arith
small_immediate Slti (negsuc n) h = omega arith
small_immediate Sltiu (pos n) h = omega arith
small_immediate Sltiu (negsuc n) h = omega arith
small_immediate Xori (pos n) h = omega arith
small_immediate Xori (negsuc n) h = omega arith
small_immediate Ori (pos n) h = omega arith
small_immediate Ori (negsuc n) h = omega arith
small_immediate Andi (pos n) h = omega arith
small_immediate Andi (negsuc n) h = omega arith
small_immediate Slli (pos n) h = omega arith
small_immediate Slli (negsuc n) h = absurd h
small_immediate Srli (pos n) h = omega arith
small_immediate Srli (negsuc n) h = absurd h
small_immediate Srai (pos n) h = omega arith
small_immediate Srai (negsuc n) h = absurd h

small : (i : Instr) → IsInstr i → IsSmall (number_of i)
small (Lui rd imm) ok = let lt = ok.1 in omega arith
small (Auipc rd imm) ok = let lt = ok.1 in omega arith
small (Jal rd (pos n)) ok = let lt = ok.1.0 in omega arith
small (Jal rd (negsuc n)) ok = let lt = ok.1.0 in omega arith
small (Jalr rd rs1 (pos n)) ok = let lt = ok.2 in omega arith
small (Jalr rd rs1 (negsuc n)) ok = let lt = ok.2 in omega arith
small (Branch op rs1 rs2 (pos n)) ok = let lt = ok.2.0 in omega arith
small (Branch op rs1 rs2 (negsuc n)) ok = let lt = ok.2.0 in omega arith
small (Load op rd rs1 (pos n)) ok = let lt = ok.2 in omega arith
small (Load op rd rs1 (negsuc n)) ok = let lt = ok.2 in omega arith
small (Store op rs1 rs2 (pos n)) ok = let lt = ok.2 in omega arith
small (Store op rs1 rs2 (negsuc n)) ok = let lt = ok.2 in omega arith
small (OpImm op rd rs1 imm) ok = small_immediate op imm ok.2
small (Op op rd rs1 rs2) ok = omega arith
small (Fence rd rs1 bits) ok = omega arith
small Ecall ok = omega arith
small Ebreak ok = omega arith

-- how many bytes an operand has at most
abbrev width : Operand → ℕ
width Rd = 4
width Rs1 = 4
width Rs2 = 4
width Immediate = 11
width Target = 11
width Memory = 17

operand_piece : (i : Instr) → IsSmall (number_of i) → (operand : Operand) → IsPiece (width operand) (operand_text i operand)
operand_piece i h Rd = register_piece (rd_of i)
operand_piece i h Rs1 = register_piece (rs1_of i)
operand_piece i h Rs2 = register_piece (rs2_of i)
operand_piece i h Immediate = number_piece (number_of i) h
operand_piece i h Target = number_piece (number_of i) h
operand_piece i h Memory =
    piece-append 16 1 (signed_decimal (number_of i) ++ codes "(" ++ register_name (rs1_of i)) (codes ")")
    (piece-append 12 4 (signed_decimal (number_of i) ++ codes "(") (register_name (rs1_of i))
    (piece-append 11 1 (signed_decimal (number_of i)) (codes "(") (number_piece (number_of i) h) (record { bytes = refl; few = omega arith }))
    (register_piece (rs1_of i)))
    (record { bytes = refl; few = omega arith })

abbrev others_width : List Operand → ℕ
others_width [] = 0
others_width (operand ∷ others) = 2 + width operand + others_width others

others_piece : (i : Instr) → IsSmall (number_of i) → (others : List Operand) → IsPiece (others_width others) (flat_map (λ operand. codes ", " ++ operand_text i operand) others)
others_piece i h [] = record { bytes = refl; few = omega arith }
others_piece i h (operand ∷ others) =
    piece-append (2 + width operand) (others_width others) (codes ", " ++ operand_text i operand) (flat_map (λ operand. codes ", " ++ operand_text i operand) others)
    (piece-append 2 (width operand) (codes ", ") (operand_text i operand) (record { bytes = refl; few = omega arith }) (operand_piece i h operand))
    (others_piece i h others)

-- ---- a line by its first word

pub record IsCode (l : List ℕ) : Type 0 where
  pub line : IsLine l
  pub inside : ends l ≡ false
  pub few : length l ≤ 30

-- a first word that is not `end`
record IsFirst (word : List ℕ) : Type 0 where
  written : IsWritten word
  few : length word ≤ 6
  other : pointwise nat_eq word (codes "end") ≡ false

abbrev is_first : List ℕ → Bool
is_first word = list_all is_word_byte word && ltb 0 (length word) && leb (length word) 6 && not (pointwise nat_eq word (codes "end"))

first_is : (word : List ℕ) → is_first word ≡ true → IsFirst word
first_is word h =
    let outer = and_parts (list_all is_word_byte word && ltb 0 (length word) && leb (length word) 6) (not (pointwise nat_eq word (codes "end"))) h in
    let middle = and_parts (list_all is_word_byte word && ltb 0 (length word)) (leb (length word) 6) outer.0 in
    let inner = and_parts (list_all is_word_byte word) (ltb 0 (length word)) middle.0 in
    record {
      written = record { bytes = inner.0; some = ltb-true 0 (length word) inner.1 };
      few = leb-true (length word) 6 middle.1;
      other = not-true (pointwise nat_eq word (codes "end")) outer.1;
    }

-- the rest of the line stands behind a space
code_line : (word rest : List ℕ) (most : ℕ) → IsFirst word → IsPiece most rest → most ≤ 23 → IsCode (word ++ 32 ∷ rest)
code_line word rest most first piece fits =
    let line : IsLine (word ++ 32 ∷ rest) = record {
      bytes = list_all-append is_line_byte word (32 ∷ rest) ∙ and_from (list_all is_line_byte word) (list_all is_line_byte (32 ∷ rest)) (word_line word first.written.bytes) piece.bytes;
      some = omega (arith, length-append word (32 ∷ rest));
    } in
    let split : slice_split is_blank (word ++ 32 ∷ rest) ≡ word ∷ slice_split is_blank rest = slice_split_at is_blank word 32 rest (no_blanks word first.written) refl in
    let some : eqb (length word) 0 ≡ false = let s = first.written.some in ne_eqb _ _ (omega arith) in
    let words : line_words (word ++ 32 ∷ rest) ≡ word ∷ words_in rest = ap words_in (before_comment (word ++ 32 ∷ rest) line) ∙ rw (split, some) refl in
    record {
      line = line;
      inside = rw words first.other;
      few = let f = first.few in let g = piece.few in omega (arith, length-append word (32 ∷ rest));
    }

code_word : (word : List ℕ) → IsFirst word → IsCode word
code_word word first =
    let line : IsLine word = record { bytes = word_line word first.written.bytes; some = first.written.some } in
    let words : line_words word ≡ word ∷ [] = ap line_words (sym (append-nil word)) ∙ spaced_words word [] first.written tt in
    record { line = line; inside = rw words first.other; few = let f = first.few in omega arith }

-- ---- instructions

branch_first : (op : BranchOp) (a b : Reg) (z : ℤ) → IsFirst (mnemonic_of (Branch op a b z))
branch_first Beq a b z = first_is (mnemonic_of (Branch Beq a b z)) refl
branch_first Bne a b z = first_is (mnemonic_of (Branch Bne a b z)) refl
branch_first Blt a b z = first_is (mnemonic_of (Branch Blt a b z)) refl
branch_first Bge a b z = first_is (mnemonic_of (Branch Bge a b z)) refl
branch_first Bltu a b z = first_is (mnemonic_of (Branch Bltu a b z)) refl
branch_first Bgeu a b z = first_is (mnemonic_of (Branch Bgeu a b z)) refl

load_first : (op : LoadOp) (a b : Reg) (z : ℤ) → IsFirst (mnemonic_of (Load op a b z))
load_first Lb a b z = first_is (mnemonic_of (Load Lb a b z)) refl
load_first Lh a b z = first_is (mnemonic_of (Load Lh a b z)) refl
load_first Lw a b z = first_is (mnemonic_of (Load Lw a b z)) refl
load_first Lbu a b z = first_is (mnemonic_of (Load Lbu a b z)) refl
load_first Lhu a b z = first_is (mnemonic_of (Load Lhu a b z)) refl

store_first : (op : StoreOp) (a b : Reg) (z : ℤ) → IsFirst (mnemonic_of (Store op a b z))
store_first Sb a b z = first_is (mnemonic_of (Store Sb a b z)) refl
store_first Sh a b z = first_is (mnemonic_of (Store Sh a b z)) refl
store_first Sw a b z = first_is (mnemonic_of (Store Sw a b z)) refl

imm_first : (op : ImmOp) (a b : Reg) (z : ℤ) → IsFirst (mnemonic_of (OpImm op a b z))
imm_first Addi a b z = first_is (mnemonic_of (OpImm Addi a b z)) refl
imm_first Slti a b z = first_is (mnemonic_of (OpImm Slti a b z)) refl
imm_first Sltiu a b z = first_is (mnemonic_of (OpImm Sltiu a b z)) refl
imm_first Xori a b z = first_is (mnemonic_of (OpImm Xori a b z)) refl
imm_first Ori a b z = first_is (mnemonic_of (OpImm Ori a b z)) refl
imm_first Andi a b z = first_is (mnemonic_of (OpImm Andi a b z)) refl
imm_first Slli a b z = first_is (mnemonic_of (OpImm Slli a b z)) refl
imm_first Srli a b z = first_is (mnemonic_of (OpImm Srli a b z)) refl
imm_first Srai a b z = first_is (mnemonic_of (OpImm Srai a b z)) refl

op_first : (op : RegOp) (a b c : Reg) → IsFirst (mnemonic_of (Op op a b c))
op_first Add a b c = first_is (mnemonic_of (Op Add a b c)) refl
op_first Sub a b c = first_is (mnemonic_of (Op Sub a b c)) refl
op_first Sll a b c = first_is (mnemonic_of (Op Sll a b c)) refl
op_first Slt a b c = first_is (mnemonic_of (Op Slt a b c)) refl
op_first Sltu a b c = first_is (mnemonic_of (Op Sltu a b c)) refl
op_first Xor a b c = first_is (mnemonic_of (Op Xor a b c)) refl
op_first Srl a b c = first_is (mnemonic_of (Op Srl a b c)) refl
op_first Sra a b c = first_is (mnemonic_of (Op Sra a b c)) refl
op_first Or a b c = first_is (mnemonic_of (Op Or a b c)) refl
op_first And a b c = first_is (mnemonic_of (Op And a b c)) refl
op_first Mul a b c = first_is (mnemonic_of (Op Mul a b c)) refl
op_first Mulh a b c = first_is (mnemonic_of (Op Mulh a b c)) refl
op_first Mulhsu a b c = first_is (mnemonic_of (Op Mulhsu a b c)) refl
op_first Mulhu a b c = first_is (mnemonic_of (Op Mulhu a b c)) refl
op_first Div a b c = first_is (mnemonic_of (Op Div a b c)) refl
op_first Divu a b c = first_is (mnemonic_of (Op Divu a b c)) refl
op_first Rem a b c = first_is (mnemonic_of (Op Rem a b c)) refl
op_first Remu a b c = first_is (mnemonic_of (Op Remu a b c)) refl

mnemonic_first : (i : Instr) → IsFirst (mnemonic_of i)
mnemonic_first (Lui rd imm) = first_is (mnemonic_of (Lui rd imm)) refl
mnemonic_first (Auipc rd imm) = first_is (mnemonic_of (Auipc rd imm)) refl
mnemonic_first (Jal rd offset) = first_is (mnemonic_of (Jal rd offset)) refl
mnemonic_first (Jalr rd rs1 imm) = first_is (mnemonic_of (Jalr rd rs1 imm)) refl
mnemonic_first (Branch op rs1 rs2 offset) = branch_first op rs1 rs2 offset
mnemonic_first (Load op rd rs1 imm) = load_first op rd rs1 imm
mnemonic_first (Store op rs1 rs2 imm) = store_first op rs1 rs2 imm
mnemonic_first (OpImm op rd rs1 imm) = imm_first op rd rs1 imm
mnemonic_first (Op op rd rs1 rs2) = op_first op rd rs1 rs2
mnemonic_first (Fence rd rs1 bits) = first_is (mnemonic_of (Fence rd rs1 bits)) refl
mnemonic_first Ecall = first_is (mnemonic_of Ecall) refl
mnemonic_first Ebreak = first_is (mnemonic_of Ebreak) refl

row_code : (i : Instr) → IsInstr i → (first : Operand) (others : List Operand) → width first + others_width others ≤ 23 → IsCode (mnemonic_of i ++ operands_text i (first ∷ others))
row_code i ok first others fits =
    code_line (mnemonic_of i) (operand_text i first ++ flat_map (λ operand. codes ", " ++ operand_text i operand) others) (width first + others_width others) (mnemonic_first i)
    (piece-append (width first) (others_width others) (operand_text i first) (flat_map (λ operand. codes ", " ++ operand_text i operand) others) (operand_piece i (small i ok) first) (others_piece i (small i ok) others))
    fits

alone_code : (i : Instr) → IsCode (mnemonic_of i ++ [])
alone_code i = rw (append-nil (mnemonic_of i)) (code_word (mnemonic_of i) (mnemonic_first i))

-- ---- words as numbers

digit_byte : (d : ℕ) → d < 16 → is_line_byte (digit_char d) ≡ true
digit_byte d h = grind (arith, nat_tests)

hexadecimal_piece : (k n : ℕ) → IsPiece k (hexadecimal k n)
unfolding hexadecimal
hexadecimal_piece zero n = record { bytes = refl; few = omega arith }
hexadecimal_piece (suc k) n =
    let digit : IsPiece 1 (digit_char (n % 16) ∷ []) = record { bytes = rw (digit_byte (n % 16) (omega arith)) refl; few = omega arith } in
    piece-wider (k + 1) (suc k) (hexadecimal k (n / 16) ++ digit_char (n % 16) ∷ []) (omega arith) (piece-append k 1 (hexadecimal k (n / 16)) (digit_char (n % 16) ∷ []) (hexadecimal_piece k (n / 16)) digit)

raw_code : (w : ℕ) → IsCode (raw_text w)
raw_code w =
    code_line (codes ".word") (48 ∷ 120 ∷ hexadecimal 8 w) 10 (first_is (codes ".word") refl)
    (piece-append 2 8 (48 ∷ 120 ∷ []) (hexadecimal 8 w) (record { bytes = refl; few = omega arith }) (hexadecimal_piece 8 w)) (omega arith)

-- ---- all words

-- what the table reads of a word is within its ranges
abbrev pub AreWithin : Type 0
AreWithin = (word : ℕ) (i : Instr) → word < 2 ^ 32 → instruction_of word ≡ Some i → IsInstr i

line_code : (w : ℕ) (found : Option Instr) → ((i : Instr) → found ≡ Some i → IsInstr i) → IsCode (line_text w found)
line_code w None ok = raw_code w
line_code w (Some (Lui rd imm)) ok = row_code (Lui rd imm) (ok (Lui rd imm) refl) Rd (Immediate ∷ []) (omega arith)
line_code w (Some (Auipc rd imm)) ok = row_code (Auipc rd imm) (ok (Auipc rd imm) refl) Rd (Immediate ∷ []) (omega arith)
line_code w (Some (Jal rd offset)) ok = row_code (Jal rd offset) (ok (Jal rd offset) refl) Rd (Target ∷ []) (omega arith)
line_code w (Some (Jalr rd rs1 imm)) ok = row_code (Jalr rd rs1 imm) (ok (Jalr rd rs1 imm) refl) Rd (Memory ∷ []) (omega arith)
line_code w (Some (Branch op rs1 rs2 offset)) ok = row_code (Branch op rs1 rs2 offset) (ok (Branch op rs1 rs2 offset) refl) Rs1 (Rs2 ∷ Target ∷ []) (omega arith)
line_code w (Some (Load op rd rs1 imm)) ok = row_code (Load op rd rs1 imm) (ok (Load op rd rs1 imm) refl) Rd (Memory ∷ []) (omega arith)
line_code w (Some (Store op rs1 rs2 imm)) ok = row_code (Store op rs1 rs2 imm) (ok (Store op rs1 rs2 imm) refl) Rs2 (Memory ∷ []) (omega arith)
line_code w (Some (OpImm op rd rs1 imm)) ok = row_code (OpImm op rd rs1 imm) (ok (OpImm op rd rs1 imm) refl) Rd (Rs1 ∷ Immediate ∷ []) (omega arith)
line_code w (Some (Op op rd rs1 rs2)) ok = row_code (Op op rd rs1 rs2) (ok (Op op rd rs1 rs2) refl) Rd (Rs1 ∷ Rs2 ∷ []) (omega arith)
line_code w (Some (Fence rd rs1 bits)) ok = elim (cases_Bool (eqb w 0x0FF0000F)) [
  | inl t ↦ rw t (alone_code (Fence rd rs1 bits))
  | inr f ↦ rw f (raw_code w)
]
line_code w (Some Ecall) ok = alone_code Ecall
line_code w (Some Ebreak) ok = alone_code Ebreak

pub word_code : AreWithin → (w : ℕ) → w < 2 ^ 32 → IsCode (text_of w)
unfolding text_of
word_code within w lt = line_code w (instruction_of w) (λ i e. within w i lt e)

pub words_code : AreWithin → (ws : List ℕ) → AllByRecursion (λ w. w < 2 ^ 32) ws → AllByRecursion IsCode (map text_of ws)
words_code within [] all = tt
words_code within (w ∷ ws) all = (word_code within w all.0, words_code within ws all.1)
