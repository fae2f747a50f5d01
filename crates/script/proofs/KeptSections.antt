-- Each block and each section keeps the limits, and so does a whole script.
use Rattle.std.proofs.Common.{◌≡◌, ℕ, ◌+◌, ◌*◌, ◌≤◌, Bool, true, false, cond, not, is_some, List, [], ◌∷◌, length, map, position, Option, Some, None, Result, Ok, Err, ltb, eqb, refl, ap, subst, arith}
use Rattle.nv_base.proofs.ForCallers.{at_ok, bind_ok}
use Rattle.std.proofs.lemmas.Bool.{ltb-false, eqb-false}
use Rattle.plain_text.specs.Words.{is_plain, line_words}
use Rattle.plain_text.specs.BadLines.{is_bad}
use Rattle.rv_asm.specs.Assembly.{assembled}
use Rattle.rv_asm.specs.Causes.{AsmError}
use Rattle.set_model.specs.Limits.{IsWithin}
use Rattle.set_model.specs.Sets.{ProgPart}
use Rattle.script.specs.declared.refusals.ScriptCause.{ScriptCause}
use Rattle.script.specs.declared.refusals.ScriptCause.TheVariants as causes
use Rattle.script.specs.declared.keyword.BlockKind.{BlockKind}
use Rattle.script.specs.declared.keyword.BlockKind.TheVariants as blocks
use Rattle.script.specs.declared.keyword.Stage.TheVariants as stages
use Rattle.nv_base.specs.Results.{◌>>=◌}
use Rattle.script.specs.Keywords.{may_follow}
use Rattle.script.specs.Words.{number, two, new_name, allowed}
use Rattle.script.specs.Parts.{Parts}
use Rattle.script.specs.Lines.{line_after}
use Rattle.script.specs.Sections.{Section, Single, Block, line_count}
use Rattle.nv_base.specs.Refusals.{at}
use Rattle.script.specs.Blocks.{Header, header_of, hex_word, with_words, code_after, code_line_after, code_lines_after, earlier, fault_at, bad_at, or_empty, code_of, is_ended, with_program, program_after, block_after}
use Rattle.script.specs.Reading.{section_after, sections_after}
use Rattle.script.proofs.Inversions.{refused_if, allowed_if, number_ok}
use Rattle.script.proofs.NewNames.{named_with}
use Rattle.script.proofs.Kept.{rank, follows, kept_program}
use Rattle.script.proofs.KeptLines.{KeptParts, line_kept}

-- what the assembler makes is short
abbrev pub IsShort : Type 0
IsShort = (lines : List (List ℕ)) → (words : List ℕ) → assembled lines ≡ Ok words → length words ≤ 1024

pub record Says (p : Parts) (header : Header) : Type 0 where
  pub stage : may_follow p.last stages.Program ≡ true
  pub word : List ℕ
  pub named : new_name (λ program. program.name) p.set.programs word ≡ Ok header.name
  pub fuel : IsWithin 1 1000000 header.fuel
  pub room : eqb (length p.set.programs) 16 ≡ false

pub header_ok : (p : Parts) (words : List (List ℕ)) (header : Header) → header_of p words ≡ Ok header → Says p header
unfolding header_of
header_ok p words header h =
    let last = λ (name : List ℕ) (fuel : ℕ). let r : Result Header ScriptCause = cond (eqb (length p.set.programs) 16) (Err causes.Many) (Ok (record { name = name; fuel = fuel })) in r in
    let a = bind_ok (allowed p.last stages.Program) (λ stage. two words >>= λ word. new_name (λ program. program.name) p.set.programs word.0 >>= λ name. number 1 1000000 word.1 >>= λ fuel. last name fuel) header h in
    let f = allowed_if (may_follow p.last stages.Program) causes.Word stages.Program a.0 a.1 in
    let b = bind_ok (two words) (λ word. new_name (λ program. program.name) p.set.programs word.0 >>= λ name. number 1 1000000 word.1 >>= λ fuel. last name fuel) header a.2 in
    let w = b.0 in
    let c = bind_ok (new_name (λ program. program.name) p.set.programs w.0) (λ name. number 1 1000000 w.1 >>= λ fuel. last name fuel) header b.2 in
    let d = bind_ok (number 1 1000000 w.1) (λ fuel. last c.0 fuel) header c.2 in
    let t = refused_if (eqb (length p.set.programs) 16) causes.Many (record { name = c.0; fuel = d.0 }) header d.2 in
    subst (Says p) t.1 (record { stage = f.0; word = w.0; named = c.1; fuel = number_ok 1 1000000 d.0 w.1 d.1; room = t.0 })

line_short : (code all : List ℕ) (line : List ℕ) → length code ≤ 1024 → code_line_after code line ≡ Ok all → length all ≤ 1024
unfolding code_after
line_short code all line few h = plain (is_plain line) (line_words line) h
  where
    found : (b : Bool) (first : List ℕ) (words : List (List ℕ)) → cond (not b) (Err causes.Word) (with_words code (first ∷ words) >>= λ more. cond (ltb 1024 (length more)) (Err causes.Many) (Ok more)) ≡ Ok all → length all ≤ 1024
    found false first words h = absurd cc
    found true first words h =
        let a = bind_ok (with_words code (first ∷ words)) (λ more. cond (ltb 1024 (length more)) (Err causes.Many) (Ok more)) all h in
        let t = refused_if (ltb 1024 (length a.0)) causes.Many a.0 all a.2 in
        subst (λ (c : List ℕ). length c ≤ 1024) t.1 (ltb-false 1024 (length a.0) t.0)

    plain : (b : Bool) (words : List (List ℕ)) → cond b (code_after code words) (Err causes.Byte) ≡ Ok all → length all ≤ 1024
    plain false words h = absurd cc
    plain true [] h = let same : code ≡ all = cc in subst (λ (c : List ℕ). length c ≤ 1024) same few
    plain true (first ∷ words) h = found (is_some (hex_word first)) first words h

lines_short : (n : ℕ) (code all : List ℕ) (lines : List (List ℕ)) → length code ≤ 1024 → code_lines_after n code lines ≡ Ok all → length all ≤ 1024
unfolding code_lines_after
lines_short n code all [] few h = let same : code ≡ all = cc in subst (λ (c : List ℕ). length c ≤ 1024) same few
lines_short n code all (line ∷ lines) few h =
    let a = bind_ok (at n (code_line_after code line)) (λ more. code_lines_after (n + 1) more lines) all h in
    lines_short (n + 1) a.0 all lines (line_short code a.0 line few (at_ok n (code_line_after code line) a.0 a.1)) a.2

earlier_ok : (n : ℕ) (bad : Option ℕ) (r : Result (List ℕ) AsmError) (code : List ℕ) → earlier n bad r ≡ Ok code → r ≡ Ok code
earlier_ok n None (Ok words) code h = let same : words ≡ code = cc in ap (λ (c : List ℕ). Ok c) same
earlier_ok n None (Err e) code h = absurd cc
earlier_ok n (Some place) (Ok words) code h = absurd cc
earlier_ok n (Some place) (Err e) code h = go (ltb e.line (place + 1)) h
  where
    go : (b : Bool) → cond b (Err (fault_at n e)) (Err (bad_at n place)) ≡ Ok code → Err e ≡ Ok code
    go true h = absurd cc
    go false h = absurd cc

code_short : IsShort → (kind : BlockKind) (n : ℕ) (body : List (List ℕ)) (code : List ℕ) → code_of kind n body ≡ Ok code → length code ≤ 1024
code_short short blocks.Program n body code h = short (map or_empty body) code (earlier_ok n (position is_bad body) (assembled (map or_empty body)) code h)
code_short short blocks.Code n body code h = lines_short (n + 1) [] code body (omega arith) h

pub program_ok : (p q : Parts) (header : Header) (code : List ℕ) (end : Option (List ℕ)) → program_after p header code end ≡ Ok q → (4 * length code ≤ p.set.memory) × (with_program p header code ≡ q)
unfolding program_after
program_ok p q header code end h =
    let a = bind_ok (is_ended end) (λ line. cond (ltb p.set.memory (4 * length code)) (Err causes.Many) (Ok (with_program p header code))) q h in
    let t = refused_if (ltb p.set.memory (4 * length code)) causes.Many (with_program p header code) q a.2 in
    (ltb-false p.set.memory (4 * length code) t.0, t.1)

block_kept : IsShort → (n : ℕ) (p q : Parts) (kind : BlockKind) (words body : List (List ℕ)) (end : Option (List ℕ)) → KeptParts p → block_after n p kind words body end ≡ Ok q → KeptParts q
unfolding block_after
block_kept short n p q kind words body end k h =
    let a = bind_ok (at n (header_of p words)) (λ header. code_of kind n body >>= λ code. at (n + 1 + length body) (program_after p header code end)) q h in
    let header = a.0 in
    let s = header_ok p words header (at_ok n (header_of p words) header a.1) in
    let b = bind_ok (code_of kind n body) (λ code. at (n + 1 + length body) (program_after p header code end)) q a.2 in
    let code = b.0 in
    let o = program_ok p q header code end (at_ok (n + 1 + length body) (program_after p header code end) q b.2) in
    let program : ProgPart = record { name = header.name; fuel = header.fuel; code = code } in
    let names = named_with (λ (x : ProgPart). x.name) p.set.programs program s.word header.name k.program_names s.named refl in
    subst KeptParts o.1
    (kept_program (rank p.last) p.set p.timeline k program (s.fuel, code_short short kind n body code b.1, o.0) names (eqb-false (length p.set.programs) 16 s.room) (follows p.last stages.Program s.stage))

section_kept : IsShort → (n : ℕ) (p q : Parts) (section : Section) → KeptParts p → section_after n p section ≡ Ok q → KeptParts q
section_kept short n p q (Single line) k h = line_kept n p q line k (at_ok n (line_after n p line) q h)
section_kept short n p q (Block kind words body end) k h = block_kept short n p q kind words body end k h

pub sections_kept : IsShort → (n m : ℕ) (p q : Parts) (sections : List Section) → KeptParts p → sections_after n p sections ≡ Ok (m, q) → KeptParts q
unfolding sections_after
sections_kept short n m p q [] k h =
    let start : ℕ × Parts = (n, p) in
    let end : ℕ × Parts = (m, q) in
    let same : start ≡ end = cc in
    subst (λ (x : ℕ × Parts). KeptParts x.1) same k
sections_kept short n m p q (section ∷ others) k h =
    let a = bind_ok (section_after n p section) (λ q. sections_after (n + line_count section) q others) (m, q) h in
    sections_kept short (n + line_count section) m a.0 q others (section_kept short n p a.0 section k a.1) a.2
