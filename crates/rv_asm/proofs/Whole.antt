-- What a line says has registers and fields within their ranges, but for its value.
use Rattle.std.proofs.Common.{◌≡◌, ℕ, Bool, true, false, cond, List, [], ◌∷◌, ◌++◌, length, find, map, option_map, position, Option, Some, None, Result, Ok, Err, IfSome, refl, inl, inr, lit<, arith, nat_eq, codes, pos}
use Rattle.std.specs.Cmp.Lexicographic.{pointwise}
use Rattle.std.specs.List.{AllByRecursion, position_or_len, before_first, after_first}
use Rattle.std.specs.Option.{option_or, ok_or}
use Rattle.std.proofs.lemmas.Bool.{cases_Bool, cases_lt, lt-ltb, le-ltb}
use Rattle.plain_text.specs.Words.{word_and_rest}
use Rattle.plain_text.specs.Names.{is_name}
use Rattle.rv_isa.specs.Ranges.{IsInstr, IsReg, IsImmediate}
use Rattle.rv_isa.specs.Names.{register_names}
use Rattle.rv_isa.specs.declared.syntax.Operand.{Operand}
use Rattle.rv_isa.specs.declared.syntax.Operand.TheVariants.{Rd, Rs1, Rs2, Immediate, Target, Memory}
use Rattle.rv_isa.specs.declared.instruction.Reg.{Reg}
use Rattle.rv_isa.specs.declared.instruction.ImmOp.{ImmOp}
use Rattle.rv_isa.specs.declared.instruction.ImmOp.TheVariants.{Addi, Slti, Sltiu, Xori, Ori, Andi, Slli, Srli, Srai}
use Rattle.rv_isa.specs.declared.instruction.BranchOp.{BranchOp}
use Rattle.rv_isa.specs.declared.instruction.BranchOp.TheVariants.{Beq, Bne, Blt, Bge, Bltu, Bgeu}
use Rattle.rv_isa.specs.declared.instruction.LoadOp.{LoadOp}
use Rattle.rv_isa.specs.declared.instruction.LoadOp.TheVariants.{Lb, Lh, Lw, Lbu, Lhu}
use Rattle.rv_isa.specs.declared.instruction.StoreOp.{StoreOp}
use Rattle.rv_isa.specs.declared.instruction.StoreOp.TheVariants.{Sb, Sh, Sw}
use Rattle.rv_isa.specs.declared.instruction.RegOp.{RegOp}
use Rattle.rv_isa.specs.declared.instruction.RegOp.TheVariants.{Add, Sub, Sll, Slt, Sltu, Xor, Srl, Sra, Or, And, Mul, Mulh, Mulhsu, Mulhu, Div, Divu, Rem, Remu}
use Rattle.rv_isa.specs.declared.instruction.Instr.{Instr}
use Rattle.rv_isa.specs.declared.instruction.Instr.TheVariants.{Lui, Auipc, Jal, Jalr, Branch, Load as LoadFrom, Store, OpImm, Op, Fence, Ecall, Ebreak}
use Rattle.rv_asm.specs.declared.cause.AsmCause.{AsmCause}
use Rattle.rv_asm.specs.declared.cause.AsmCause.TheVariants.{Mnemonic, Operand as BadOperand}
use Rattle.rv_asm.specs.Numbers.{number_of}
use Rattle.rv_asm.specs.Registers.{register_of, register_among, numbered, numbered_names}
use Rattle.rv_asm.specs.Fields.{with_rd, with_rs1, with_rs2}
use Rattle.rv_asm.specs.Forms.{Form, forms, form_among, form_named, form_parts, instruction_form, templates, single_templates, branch_templates, load_templates, store_templates, imm_templates, op_templates, pseudo_forms, branch_template, load_template, store_template, imm_template, op_template}
use Rattle.rv_asm.specs.Operands.{◌>>=◌, Open, Absent, opened, before_end, parenthesis, address_of, target_of, fill, filled, operand_in, pieces_of, two_from}
use Rattle.rv_asm.specs.Lines.{Body, Load, Line, line, instruction_in, load_in, word_in, by_form, by_words, by_label, by_first_word, body_of, body_in, labelled, parsed}
use Rattle.rv_asm.specs.Seen.{IsWhole}
use Rattle.nv_base.proofs.ForCallers.{all_append}

-- ---- options

bound : {A B : Type 0} (o : Option A) (f : A → Option B) (P : A → Type 0) (Q : B → Type 0) → IfSome o P → ((a : A) → P a → IfSome (f a) Q) → IfSome (o >>= f) Q
bound None f P Q h k = tt
bound (Some a) f P Q h k = k a h

any : {A : Type 0} (o : Option A) → IfSome o (λ _. Unit {0})
any None = tt
any (Some a) = tt

mapped : {A B : Type 0} (o : Option A) (f : A → B) (P : A → Type 0) (Q : B → Type 0) → IfSome o P → ((a : A) → P a → Q (f a)) → IfSome (option_map f o) Q
mapped None f P Q h k = tt
mapped (Some a) f P Q h k = k a h

-- ---- registers

numbered_whole : (p : List ℕ → Bool) (names : List (List ℕ)) → length names ≡ 32 → IfSome (numbered (position p names)) IsReg
numbered_whole p names len = elim (cases_lt (position_or_len p names) (length names)) [
  | inl lt ↦ rw (lt-ltb _ _ lt) (omega arith)
  | inr le ↦ rw (le-ltb _ _ le) tt
]

or_whole : (a b : Option Reg) → IfSome a IsReg → IfSome b IsReg → IfSome (option_or a b) IsReg
or_whole None b h k = k
or_whole (Some r) b h k = h

pub register_whole : (word : List ℕ) → IfSome (register_of word) IsReg
unfolding register_of
register_whole word = elim (cases_Bool (pointwise nat_eq word (codes "fp"))) [
  | inl e ↦ rw e (lit< tt)
  | inr e ↦ rw e (or_whole (register_among register_names word) (register_among numbered_names word)
      (numbered_whole (λ name. pointwise nat_eq name word) register_names refl)
      (numbered_whole (λ name. pointwise nat_eq name word) numbered_names refl))
]

-- ---- operands

rd_whole : (r : Reg) (i : Instr) → IsReg r → IsInstr i → IsInstr (with_rd r i)
rd_whole r (Lui rd imm) h k = (h, k.1)
rd_whole r (Auipc rd imm) h k = (h, k.1)
rd_whole r (Jal rd offset) h k = (h, k.1)
rd_whole r (Jalr rd rs1 imm) h k = (h, k.1, k.2)
rd_whole r (Branch op rs1 rs2 offset) h k = k
rd_whole r (LoadFrom op rd rs1 imm) h k = (h, k.1, k.2)
rd_whole r (Store op rs1 rs2 imm) h k = k
rd_whole r (OpImm op rd rs1 imm) h k = (h, k.1, k.2)
rd_whole r (Op op rd rs1 rs2) h k = (h, k.1, k.2)
rd_whole r (Fence rd rs1 bits) h k = (h, k.1, k.2)
rd_whole r Ecall h k = k
rd_whole r Ebreak h k = k

rs1_whole : (r : Reg) (i : Instr) → IsReg r → IsInstr i → IsInstr (with_rs1 r i)
rs1_whole r (Lui rd imm) h k = k
rs1_whole r (Auipc rd imm) h k = k
rs1_whole r (Jal rd offset) h k = k
rs1_whole r (Jalr rd rs1 imm) h k = (k.0, h, k.2)
rs1_whole r (Branch op rs1 rs2 offset) h k = (h, k.1, k.2)
rs1_whole r (LoadFrom op rd rs1 imm) h k = (k.0, h, k.2)
rs1_whole r (Store op rs1 rs2 imm) h k = (h, k.1, k.2)
rs1_whole r (OpImm op rd rs1 imm) h k = (k.0, h, k.2)
rs1_whole r (Op op rd rs1 rs2) h k = (k.0, h, k.2)
rs1_whole r (Fence rd rs1 bits) h k = (k.0, h, k.2)
rs1_whole r Ecall h k = k
rs1_whole r Ebreak h k = k

rs2_whole : (r : Reg) (i : Instr) → IsReg r → IsInstr i → IsInstr (with_rs2 r i)
rs2_whole r (Lui rd imm) h k = k
rs2_whole r (Auipc rd imm) h k = k
rs2_whole r (Jal rd offset) h k = k
rs2_whole r (Jalr rd rs1 imm) h k = k
rs2_whole r (Branch op rs1 rs2 offset) h k = (k.0, h, k.2)
rs2_whole r (LoadFrom op rd rs1 imm) h k = k
rs2_whole r (Store op rs1 rs2 imm) h k = (k.0, h, k.2)
rs2_whole r (OpImm op rd rs1 imm) h k = k
rs2_whole r (Op op rd rs1 rs2) h k = (k.0, k.1, h)
rs2_whole r (Fence rd rs1 bits) h k = k
rs2_whole r Ecall h k = k
rs2_whole r Ebreak h k = k

address_whole : (word : List ℕ) → IfSome (address_of word) (λ a. IsReg a.1)
unfolding address_of
address_whole word =
    bound (before_end 41 (after_first parenthesis word)) _ (λ _. Unit {0}) (λ a. IsReg a.1) (any _)
    (λ name _. bound (number_of (before_first parenthesis word)) (λ z. register_of name >>= λ r. Some (z, r)) (λ _. Unit {0}) (λ a. IsReg a.1) (any _)
    (λ z _. bound (register_of name) (λ r. Some (z, r)) IsReg (λ a. IsReg a.1) (register_whole name) (λ r h. h)))

abbrev whole_open : Open → Type 0
whole_open o = IsInstr o.instr

fill_whole : (x : Operand) (word : List ℕ) (o : Open) → IsInstr o.instr → IfSome (fill x word o) whole_open
unfolding fill
fill_whole Rd word o h = mapped (register_of word) _ IsReg whole_open (register_whole word) (λ r k. rd_whole r o.instr k h)
fill_whole Rs1 word o h = mapped (register_of word) _ IsReg whole_open (register_whole word) (λ r k. rs1_whole r o.instr k h)
fill_whole Rs2 word o h = mapped (register_of word) _ IsReg whole_open (register_whole word) (λ r k. rs2_whole r o.instr k h)
fill_whole Immediate word o h = mapped (number_of word) _ (λ _. Unit {0}) whole_open (any _) (λ _ _. h)
fill_whole Target word o h = mapped (target_of word) _ (λ _. Unit {0}) whole_open (any _) (λ _ _. h)
fill_whole Memory word o h = mapped (address_of word) _ (λ a. IsReg a.1) whole_open (address_whole word) (λ a k. rs1_whole a.1 o.instr k h)

filled_whole : (operands : List Operand) (pieces : List (List ℕ)) (o : Open) → IsInstr o.instr → IfSome (filled operands pieces o) whole_open
unfolding filled
filled_whole [] [] o h = h
filled_whole [] (p ∷ ps) o h = tt
filled_whole (x ∷ xs) [] o h = tt
filled_whole (x ∷ xs) (p ∷ ps) o h =
    bound (operand_in p) (λ word. fill x word o >>= filled xs ps) (λ _. Unit {0}) whole_open (any _)
    (λ word _. bound (fill x word o) (filled xs ps) whole_open whole_open (fill_whole x word o h) (λ q k. filled_whole xs ps q k))

-- ---- forms

branch_ok : (op : BranchOp) → IsInstr (branch_template op)
branch_ok op = (lit< tt, lit< tt, (lit< tt, refl))

load_ok : (op : LoadOp) → IsInstr (load_template op)
load_ok op = (lit< tt, lit< tt, lit< tt)

store_ok : (op : StoreOp) → IsInstr (store_template op)
store_ok op = (lit< tt, lit< tt, lit< tt)

zero_ok : (op : ImmOp) → IsImmediate op (pos 0)
zero_ok Addi = lit< tt
zero_ok Slti = lit< tt
zero_ok Sltiu = lit< tt
zero_ok Xori = lit< tt
zero_ok Ori = lit< tt
zero_ok Andi = lit< tt
zero_ok Slli = lit< tt
zero_ok Srli = lit< tt
zero_ok Srai = lit< tt

imm_ok : (op : ImmOp) → IsInstr (imm_template op)
imm_ok op = (lit< tt, lit< tt, zero_ok op)

op_ok : (op : RegOp) → IsInstr (op_template op)
op_ok op = (lit< tt, lit< tt, lit< tt)

all_map : {X : Type 0} (f : X → Instr) → ((x : X) → IsInstr (f x)) → (xs : List X) → AllByRecursion IsInstr (map f xs)
all_map f h [] = tt
all_map f h (x ∷ xs) = (h x, all_map f h xs)

singles_ok : AllByRecursion IsInstr single_templates
unfolding single_templates
singles_ok = ((lit< tt, lit< tt), ((lit< tt, lit< tt), ((lit< tt, (lit< tt, refl)), ((lit< tt, lit< tt, lit< tt), ((lit< tt, lit< tt, lit< tt), (tt, (tt, tt)))))))

templates_ok : AllByRecursion IsInstr templates
unfolding templates branch_templates load_templates store_templates imm_templates op_templates
templates_ok =
    let branches : AllByRecursion IsInstr branch_templates = all_map branch_template branch_ok (Beq ∷ Bne ∷ Blt ∷ Bge ∷ Bltu ∷ Bgeu ∷ []) in
    let loads : AllByRecursion IsInstr load_templates = all_map load_template load_ok (Lb ∷ Lh ∷ Lw ∷ Lbu ∷ Lhu ∷ []) in
    let stores : AllByRecursion IsInstr store_templates = all_map store_template store_ok (Sb ∷ Sh ∷ Sw ∷ []) in
    let immediates : AllByRecursion IsInstr imm_templates = all_map imm_template imm_ok (Addi ∷ Slti ∷ Sltiu ∷ Xori ∷ Ori ∷ Andi ∷ Slli ∷ Srli ∷ Srai ∷ []) in
    let ops : AllByRecursion IsInstr op_templates = all_map op_template op_ok (Add ∷ Sub ∷ Sll ∷ Slt ∷ Sltu ∷ Xor ∷ Srl ∷ Sra ∷ Or ∷ And ∷ Mul ∷ Mulh ∷ Mulhsu ∷ Mulhu ∷ Div ∷ Divu ∷ Rem ∷ Remu ∷ []) in
    let two = all_append IsInstr single_templates branch_templates singles_ok branches in
    let three = all_append IsInstr (single_templates ++ branch_templates) load_templates two loads in
    let four = all_append IsInstr (single_templates ++ branch_templates ++ load_templates) store_templates three stores in
    let five = all_append IsInstr (single_templates ++ branch_templates ++ load_templates ++ store_templates) imm_templates four immediates in
    all_append IsInstr (single_templates ++ branch_templates ++ load_templates ++ store_templates ++ imm_templates) op_templates five ops

abbrev whole_form : Form → Type 0
whole_form f = IsInstr f.template

all_forms : (is : List Instr) → AllByRecursion IsInstr is → AllByRecursion whole_form (map instruction_form is)
all_forms [] h = tt
all_forms (i ∷ is) h = (h.0, all_forms is h.1)

pseudo_ok : AllByRecursion whole_form pseudo_forms
unfolding pseudo_forms
pseudo_ok =
    (imm_ok Addi, (imm_ok Addi, ((lit< tt, lit< tt, lit< tt), ((lit< tt, lit< tt, lit< tt), ((lit< tt, (lit< tt, refl)), ((lit< tt, lit< tt, lit< tt), ((lit< tt, lit< tt, lit< tt), ((lit< tt, lit< tt, (lit< tt, refl)), ((lit< tt, lit< tt, (lit< tt, refl)), tt)))))))))

find_whole : {X : Type 0} (P : X → Type 0) (p : X → Bool) (xs : List X) → AllByRecursion P xs → IfSome (find p xs) P
find_whole P p [] h = tt
find_whole P p (x ∷ xs) h = elim (cases_Bool (p x)) [
  | inl e ↦ rw e h.0
  | inr e ↦ rw e (find_whole P p xs h.1)
]

form_whole : (word : List ℕ) → IfSome (form_named word) (λ parts. IsInstr parts.1)
unfolding form_named
form_whole word =
    mapped (form_among forms word) form_parts whole_form (λ parts. IsInstr parts.1)
    (find_whole whole_form (λ (f : Form). pointwise nat_eq f.name word) forms (all_append whole_form (map instruction_form templates) pseudo_forms (all_forms templates templates_ok) pseudo_ok))
    (λ f h. h)

-- ---- lines

abbrev whole_body : Body → Type 0
whole_body body = IsWhole (Ok body)

or_refused : (o : Option Body) → IfSome o whole_body → IsWhole (ok_or o BadOperand)
or_refused None h = tt
or_refused (Some body) h = h

load_whole : (text : List ℕ) → IfSome (load_in text) whole_body
load_whole text =
    bound (two_from (pieces_of text)) _ (λ _. Unit {0}) whole_body (any _)
    (λ w _. bound (register_of w.0) (λ rd. number_of w.1 >>= λ z. Some (Load rd z)) IsReg whole_body (register_whole w.0)
    (λ rd h. bound (number_of w.1) (λ z. Some (Load rd z)) (λ _. Unit {0}) whole_body (any _) (λ z _. h)))

word_whole : (text : List ℕ) → IfSome (word_in text) whole_body
word_whole text =
    bound (operand_in text) _ (λ _. Unit {0}) whole_body (any _)
    (λ word _. bound (number_of word) _ (λ _. Unit {0}) whole_body (any _) (λ z _. tt))

instruction_whole : (operands : List Operand) (template : Instr) (text : List ℕ) → IsInstr template → IfSome (instruction_in operands template text) whole_body
instruction_whole operands template text h =
    bound (filled operands (pieces_of text) (opened template Absent)) _ whole_open whole_body (filled_whole operands (pieces_of text) (opened template Absent) h) (λ o k. k)

by_form_whole : (form : Option (List Operand × Instr)) (text : List ℕ) → IfSome form (λ parts. IsInstr parts.1) → IsWhole (by_form form text)
by_form_whole None text h = tt
by_form_whole (Some form) text h = or_refused (instruction_in form.0 form.1 text) (instruction_whole form.0 form.1 text h)

chosen : (b : Bool) (x y : Result Body AsmCause) → IsWhole x → IsWhole y → IsWhole (cond b x y)
chosen true x y h k = h
chosen false x y h k = k

body_of_whole : (mnemonic text : List ℕ) → IsWhole (body_of mnemonic text)
body_of_whole mnemonic text =
    chosen (pointwise nat_eq mnemonic (codes "li")) _ _ (or_refused (load_in text) (load_whole text))
    (chosen (pointwise nat_eq mnemonic (codes ".word")) _ _ (or_refused (word_in text) (word_whole text)) (by_form_whole (form_named mnemonic) text (form_whole mnemonic)))

by_words_whole : (w : Option (List ℕ × List ℕ)) → IsWhole (by_words w)
by_words_whole None = tt
by_words_whole (Some w) = body_of_whole w.0 w.1

body_whole : (text : List ℕ) → IsWhole (body_in text)
body_whole text = by_words_whole (word_and_rest text)

chosen_line : (b : Bool) (x y : Line) → IsWhole x.body → IsWhole y.body → IsWhole (cond b x y).body
chosen_line true x y h k = h
chosen_line false x y h k = k

labelled_whole : (name rest : List ℕ) → IsWhole (labelled name rest).body
labelled_whole name rest = chosen_line (is_name name) (line (Some name) (body_in rest)) (line None (Err Mnemonic)) (body_whole rest) tt

by_label_whole : (label : Option (List ℕ)) (text rest : List ℕ) → IsWhole (by_label label text rest).body
by_label_whole None text rest = body_whole text
by_label_whole (Some name) text rest = labelled_whole name rest

by_first_word_whole : (text : List ℕ) (w : Option (List ℕ × List ℕ)) → IsWhole (by_first_word text w).body
by_first_word_whole text None = tt
by_first_word_whole text (Some w) = by_label_whole (before_end 58 w.0) text w.1

pub parsed_whole : (bytes : List ℕ) → IsWhole (parsed bytes).body
parsed_whole bytes = let text = before_first (λ b. nat_eq b 35) bytes in by_first_word_whole text (word_and_rest text)
