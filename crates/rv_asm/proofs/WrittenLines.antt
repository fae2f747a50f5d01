-- Lines that were written are assembled to the words from which they were written.
use Rattle.std.proofs.Common.{◌≡◌, ℕ, ◌+◌, ◌-◌, ◌≤◌, ◌<◌, ◌^◌, true, false, pos, List, [], ◌∷◌, ◌++◌, length, map, Option, Some, None, Result, Ok, refl, sym, ap, ◌∙◌, ltb, leb, eqb, inl, inr, arith, append_assoc, length-append, codes}
use Rattle.std.specs.List.{list_all, before_first, flat_map, AllByRecursion}
use Rattle.std.specs.Str.Lines.{lines}
use Rattle.std.proofs.lemmas.Bool.{eqb-true, le-ltb, le-leb, ne_eqb, cases_Bool}
use Rattle.std.proofs.lemmas.List.{take_all, append-nil}
use Rattle.std.proofs.lemmas.List.Folds.{list_all-append}
use Rattle.rv_isa.specs.Names.{mnemonic_of}
use Rattle.rv_isa.specs.Ranges.{IsInstr}
use Rattle.rv_isa.specs.Table.{instruction_of}
use Rattle.rv_isa.specs.Texts.{operands_of, operand_text, operands_text, raw_text, hexadecimal, line_text, text_of}
use Rattle.rv_isa.specs.Words.{instruction_word}
use Rattle.rv_isa.specs.declared.syntax.Operand.{Operand}
use Rattle.rv_isa.specs.declared.syntax.Operand.TheVariants.{Rd, Rs1, Rs2, Immediate, Target, Memory}
use Rattle.rv_isa.specs.declared.instruction.Instr.{Instr}
use Rattle.rv_isa.specs.declared.instruction.Instr.TheVariants.{Lui, Auipc, Jal, Jalr, Branch, Load, Store, OpImm, Op, Fence, Ecall, Ebreak}
use Rattle.rv_asm.specs.declared.cause.AsmCause.{AsmCause}
use Rattle.rv_asm.specs.Assembly.{body_words, line_after, lines_after, assembled}
use Rattle.rv_asm.specs.Disassembly.{disassembled}
use Rattle.rv_asm.specs.Forms.{x0, single_templates, branch_templates, load_templates, store_templates, imm_templates, op_templates, templates, pseudo_forms, form_named}
use Rattle.rv_asm.specs.Labels.{Found, labels_of}
use Rattle.rv_asm.specs.Lines.{Body, Instruction, Word, line, parsed, body_of}
use Rattle.rv_asm.specs.Operands.{opened, Absent, before_end, filled}
use Rattle.rv_asm.proofs.Tokens.{is_token, token_inner, is_text_byte, token_text, word_first, operand_is, pieces_are, no_comment, text_first}
use Rattle.rv_asm.proofs.WrittenNumbers.{hexadecimal_back, hexadecimal_inner}
use Rattle.rv_asm.proofs.WrittenOperands.{IsPlain, plain, operand_token, put_all, filled_back}
use Rattle.rv_asm.proofs.WrittenForms.{template, IsFormed, formed, IsNoFence, words_back}

-- a line whose first word is no label
line_is : (name rest : List ℕ) → is_token name ≡ true → before_end 58 name ≡ None → list_all is_text_byte (name ++ 32 ∷ rest) ≡ true → parsed (name ++ 32 ∷ rest) ≡ line None (body_of name (32 ∷ rest))
line_is name rest token unlabelled text =
    let whole : before_first (λ b. eqb b 35) (name ++ 32 ∷ rest) ≡ name ++ 32 ∷ rest = rw (no_comment (name ++ 32 ∷ rest) text) (take_all (length (name ++ 32 ∷ rest)) (name ++ 32 ∷ rest) (omega arith)) in
    let first = word_first name rest token in
    rw (whole, first, unlabelled, first) refl

-- what the line of a word says
record IsSaid (w : ℕ) (text : List ℕ) : Type 0 where
  body : Body
  read : parsed text ≡ line None (Ok body)
  words : (found : Found) (here : ℕ) → body_words found here body ≡ Ok (w ∷ [])
  bytes : list_all is_text_byte text ≡ true
  some : 0 < length text

-- ---- words that are no instruction

raw_words : (w : ℕ) → w < 2 ^ 32 → (found : Found) (here : ℕ) → body_words found here (Word (pos w)) ≡ Ok (w ∷ [])
unfolding body_words
raw_words w lt found here = let fits : leb w (2 ^ 32 - 1) ≡ true = le-leb _ _ (omega arith) in rw fits refl

raw_said : (w : ℕ) → w < 2 ^ 32 → IsSaid w (raw_text w)
raw_said w lt =
    let inner = hexadecimal_inner w in
    let token : is_token (48 ∷ 120 ∷ hexadecimal 8 w) ≡ true = rw inner (let some : eqb (length (48 ∷ 120 ∷ hexadecimal 8 w)) 0 ≡ false = ne_eqb _ _ (omega arith) in rw some refl) in
    let bytes : list_all is_text_byte (raw_text w) ≡ true = rw (token_text (hexadecimal 8 w) inner) refl in
    let said : body_of (codes ".word") (32 ∷ 48 ∷ 120 ∷ hexadecimal 8 w) ≡ Ok (Word (pos w)) = rw (operand_is (48 ∷ 120 ∷ hexadecimal 8 w) token, hexadecimal_back w lt) refl in
    record {
      body = Word (pos w);
      read = line_is (codes ".word") (48 ∷ 120 ∷ hexadecimal 8 w) refl refl bytes ∙ ap (λ (b : Result Body AsmCause). line None b) said;
      words = raw_words w lt;
      bytes = bytes;
      some = omega arith;
    }

-- ---- instructions

others_bytes : (i : Instr) → IsPlain i → (others : List Operand) → list_all is_text_byte (flat_map (λ operand. codes ", " ++ operand_text i operand) others) ≡ true
others_bytes i so [] = refl
others_bytes i so (operand ∷ others) =
    rw (
      list_all-append is_text_byte (operand_text i operand) (flat_map (λ operand. codes ", " ++ operand_text i operand) others),
      token_text (operand_text i operand) (token_inner (operand_text i operand) (operand_token i so operand)),
      others_bytes i so others,
    ) refl

row_bytes : (i : Instr) → IsFormed i → IsPlain i → (first : Operand) (others : List Operand) → list_all is_text_byte (mnemonic_of i ++ operands_text i (first ∷ others)) ≡ true
row_bytes i shape so first others =
    rw (
      list_all-append is_text_byte (mnemonic_of i) (operands_text i (first ∷ others)),
      token_text (mnemonic_of i) (token_inner (mnemonic_of i) shape.token),
      list_all-append is_text_byte (operand_text i first) (flat_map (λ operand. codes ", " ++ operand_text i operand) others),
      token_text (operand_text i first) (token_inner (operand_text i first) (operand_token i so first)),
      others_bytes i so others,
    ) refl

row_body : (i : Instr) → IsFormed i → IsPlain i → (first : Operand) (others : List Operand) → operands_of i ≡ first ∷ others
    → body_of (mnemonic_of i) (operands_text i (first ∷ others)) ≡ Ok (Instruction (put_all i (first ∷ others) (opened (template i) Absent)))
row_body i shape so first others e =
    rw (shape.no_load, shape.no_word, shape.named, e, pieces_are (operand_text i) (operand_token i so) first others, filled_back i so (first ∷ others) (opened (template i) Absent)) refl

row_said : (i : Instr) (w : ℕ) → IsInstr i → IsNoFence i → instruction_word i ≡ w → (first : Operand) (others : List Operand) → operands_of i ≡ first ∷ others → IsSaid w (mnemonic_of i ++ operands_text i (first ∷ others))
unfolding body_words
row_said i w ok other same first others e =
    let shape = formed i in
    let so = plain i ok in
    let bytes = row_bytes i shape so first others in
    record {
      body = Instruction (put_all i (first ∷ others) (opened (template i) Absent));
      read = line_is (mnemonic_of i) (operand_text i first ++ flat_map (λ operand. codes ", " ++ operand_text i operand) others) shape.token shape.unlabelled bytes ∙ ap (λ (b : Result Body AsmCause). line None b) (row_body i shape so first others e);
      words = λ found here. rw (← e, ← same) (words_back found here i so ok other);
      bytes = bytes;
      some = omega (arith, length-append (mnemonic_of i) (operands_text i (first ∷ others)));
    }

alone : (i : Instr) (w : ℕ) → parsed (mnemonic_of i) ≡ line None (Ok (Instruction (opened (template i) Absent))) → instruction_word (template i) ≡ w → list_all is_text_byte (mnemonic_of i) ≡ true → 0 < length (mnemonic_of i) → IsSaid w (mnemonic_of i)
unfolding body_words
alone i w read same bytes some = record {
  body = Instruction (opened (template i) Absent);
  read = read;
  words = λ found here. ap (λ (v : ℕ). Ok (v ∷ [])) same;
  bytes = bytes;
  some = some;
}

fence_said : (w : ℕ) → eqb w 0x0FF0000F ≡ true → IsSaid w (codes "fence")
unfolding form_named filled body_words single_templates branch_templates load_templates store_templates imm_templates op_templates templates pseudo_forms
fence_said w e = record {
  body = Instruction (opened (Fence x0 x0 0x0FF) Absent);
  read = refl;
  words = λ found here. ap (λ (v : ℕ). Ok (v ∷ [])) (sym (eqb-true w 0x0FF0000F e));
  bytes = refl;
  some = omega arith;
}

-- what the table reads of a word is within its ranges, and has this word
abbrev Back : Type 0
Back = (word : ℕ) (i : Instr) → word < 2 ^ 32 → instruction_of word ≡ Some i → (instruction_word i ≡ word) × IsInstr i

said_by : (w : ℕ) (found : Option Instr) → w < 2 ^ 32 → ((i : Instr) → found ≡ Some i → (instruction_word i ≡ w) × IsInstr i) → IsSaid w (line_text w found)
unfolding form_named filled single_templates branch_templates load_templates store_templates imm_templates op_templates templates pseudo_forms
said_by w None lt back = raw_said w lt
said_by w (Some (Lui rd imm)) lt back = let b = back (Lui rd imm) refl in row_said (Lui rd imm) w b.1 tt b.0 Rd (Immediate ∷ []) refl
said_by w (Some (Auipc rd imm)) lt back = let b = back (Auipc rd imm) refl in row_said (Auipc rd imm) w b.1 tt b.0 Rd (Immediate ∷ []) refl
said_by w (Some (Jal rd offset)) lt back = let b = back (Jal rd offset) refl in row_said (Jal rd offset) w b.1 tt b.0 Rd (Target ∷ []) refl
said_by w (Some (Jalr rd rs1 imm)) lt back = let b = back (Jalr rd rs1 imm) refl in row_said (Jalr rd rs1 imm) w b.1 tt b.0 Rd (Memory ∷ []) refl
said_by w (Some (Branch op rs1 rs2 offset)) lt back = let b = back (Branch op rs1 rs2 offset) refl in row_said (Branch op rs1 rs2 offset) w b.1 tt b.0 Rs1 (Rs2 ∷ Target ∷ []) refl
said_by w (Some (Load op rd rs1 imm)) lt back = let b = back (Load op rd rs1 imm) refl in row_said (Load op rd rs1 imm) w b.1 tt b.0 Rd (Memory ∷ []) refl
said_by w (Some (Store op rs1 rs2 imm)) lt back = let b = back (Store op rs1 rs2 imm) refl in row_said (Store op rs1 rs2 imm) w b.1 tt b.0 Rs2 (Memory ∷ []) refl
said_by w (Some (OpImm op rd rs1 imm)) lt back = let b = back (OpImm op rd rs1 imm) refl in row_said (OpImm op rd rs1 imm) w b.1 tt b.0 Rd (Rs1 ∷ Immediate ∷ []) refl
said_by w (Some (Op op rd rs1 rs2)) lt back = let b = back (Op op rd rs1 rs2) refl in row_said (Op op rd rs1 rs2) w b.1 tt b.0 Rd (Rs1 ∷ Rs2 ∷ []) refl
said_by w (Some (Fence rd rs1 bits)) lt back = elim (cases_Bool (eqb w 0x0FF0000F)) [
  | inl t ↦ rw t (fence_said w t)
  | inr f ↦ rw f (raw_said w lt)
]
said_by w (Some Ecall) lt back = alone Ecall w refl (back Ecall refl).0 refl (omega arith)
said_by w (Some Ebreak) lt back = alone Ebreak w refl (back Ebreak refl).0 refl (omega arith)

said : Back → (w : ℕ) → w < 2 ^ 32 → IsSaid w (text_of w)
unfolding text_of
said back w lt = said_by w (instruction_of w) lt (λ i e. back w i lt e)

-- ---- all lines

lines_back : Back → (found : Found) (n : ℕ) (done ws : List ℕ) → AllByRecursion (λ w. w < 2 ^ 32) ws → length done + length ws ≤ 1024
    → lines_after found n done (map parsed (lines (disassembled ws))) ≡ Ok (done ++ ws)
unfolding lines_after line_after
lines_back back found n done [] small few = ap (λ (d : List ℕ). Ok d) (sym (append-nil done))
lines_back back found n done (w ∷ ws) small few =
    let so = said back w small.0 in
    let cut : disassembled (w ∷ ws) ≡ text_of w ++ 10 ∷ disassembled ws = append_assoc (text_of w) (10 ∷ []) (disassembled ws) in
    let split : map parsed (lines (disassembled (w ∷ ws))) ≡ parsed (text_of w) ∷ map parsed (lines (disassembled ws)) = ap (λ (t : List ℕ). map parsed (lines t)) cut ∙ ap (λ (ls : List (List ℕ)). map parsed ls) (text_first (text_of w) (disassembled ws) so.bytes so.some) in
    let room : ltb 1024 (length done + 1) ≡ false = le-ltb _ _ (omega arith) in
    let rest = lines_back back found (n + 1) (done ++ w ∷ []) ws small.1 (omega (arith, length-append done (w ∷ []))) in
    rw (split, so.read, so.words found (length done), room, rest) (ap (λ (d : List ℕ). Ok d) (append_assoc done (w ∷ []) ws))

pub assembled_back : Back → (ws : List ℕ) → AllByRecursion (λ w. w < 2 ^ 32) ws → length ws ≤ 1024 → assembled (lines (disassembled ws)) ≡ Ok ws
assembled_back back ws small few = lines_back back (labels_of (map parsed (lines (disassembled ws)))) 1 [] ws small (omega arith)
