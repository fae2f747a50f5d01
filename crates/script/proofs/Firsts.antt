-- The first section that is refused, and the line in it.
use Rattle.std.proofs.Common.{◌≡◌, ℕ, suc, ◌+◌, ◌<◌, ◌≤◌, Bool, true, false, cond, List, [], ◌∷◌, length, map, position, take, Option, Some, None, Result, Ok, Err, ltb, refl, sym, ap, subst, ◌∙◌, ◌⊎◌, inl, inr, arith}
use Rattle.nv_base.proofs.ForCallers.{at_err, bind_err}
use Rattle.std.specs.List.{position_or_len}
use Rattle.std.proofs.lemmas.Bool.{ltb-true}
use Rattle.std.proofs.lemmas.List.{length-map}
use Rattle.std.proofs.lemmas.Option.{cond_some}
use Rattle.rv_asm.specs.Assembly.{assembled}
use Rattle.rv_asm.specs.Causes.{AsmError}
use Rattle.plain_text.specs.BadLines.{is_bad}
use Rattle.script.specs.Causes.{ScriptError}
use Rattle.script.specs.declared.keyword.BlockKind.{BlockKind}
use Rattle.script.specs.declared.keyword.BlockKind.TheVariants as blocks
use Rattle.nv_base.specs.Results.{◌>>=◌}
use Rattle.script.specs.Parts.{Parts}
use Rattle.script.specs.Lines.{line_after}
use Rattle.script.specs.Sections.{Section, Single, Block, line_count}
use Rattle.nv_base.specs.Refusals.{at}
use Rattle.script.specs.Blocks.{header_of, code_line_after, code_lines_after, earlier, fault_at, bad_at, or_empty, code_of, program_after, block_after}
use Rattle.script.specs.Reading.{section_after, sections_after}
use Rattle.script.specs.Laws.{IsFirstRefused}
use Rattle.script.proofs.Faults.{fault_in}

abbrev Inside : ℕ → ℕ → ScriptError → Type 0
Inside low high e = (low ≤ e.line) × (e.line < high)

lines_inside : (n : ℕ) (code : List ℕ) (lines : List (List ℕ)) (e : ScriptError) → code_lines_after n code lines ≡ Err e → Inside n (n + length lines) e
unfolding code_lines_after
lines_inside n code [] e h = absurd cc
lines_inside n code (line ∷ lines) e h =
    split (bind_err (at n (code_line_after code line)) (λ more. code_lines_after (n + 1) more lines) e h) (λ more g. lines_inside (n + 1) more lines e g)
  where
    split : (at n (code_line_after code line) ≡ Err e) ⊎ ((more : List ℕ) × (at n (code_line_after code line) ≡ Ok more) × (code_lines_after (n + 1) more lines ≡ Err e))
        → ((more : List ℕ) → code_lines_after (n + 1) more lines ≡ Err e → Inside (n + 1) (n + 1 + length lines) e) → Inside n (n + suc (length lines)) e
    split (inl now) later = let here = at_err n (code_line_after code line) e now in (omega arith, omega arith)
    split (inr next) later = let there = later next.0 next.2 in (omega arith, omega arith)

placed : (xs : List (List ℕ)) (place : ℕ) → position is_bad xs ≡ Some place → place < length xs
placed xs place e =
    let t = cond_some (ltb (position_or_len is_bad xs) (length xs)) (position_or_len is_bad xs) place e in
    omega (arith, ltb-true _ _ t.0, t.1)

fault_inside : (n : ℕ) (body : List (List ℕ)) (a : AsmError) → assembled (map or_empty body) ≡ Err a → Inside n (n + length body + 1) (fault_at n a)
fault_inside n body a h = let small = fault_in (map or_empty body) a h in (omega arith, omega (arith, small, length-map body or_empty))

earlier_inside : (n : ℕ) (body : List (List ℕ)) (bad : Option ℕ) (r : Result (List ℕ) AsmError) (e : ScriptError) → position is_bad body ≡ bad → assembled (map or_empty body) ≡ r
    → earlier n bad r ≡ Err e → Inside n (n + length body + 1) e
earlier_inside n body None (Ok code) e b a h = absurd cc
earlier_inside n body None (Err f) e b a h =
    let same : fault_at n f ≡ e = cc in subst (Inside n (n + length body + 1)) same (fault_inside n body f a)
earlier_inside n body (Some place) (Ok code) e b a h =
    let same : bad_at n place ≡ e = cc in
    let few = placed body place b in
    subst (Inside n (n + length body + 1)) same (omega arith, omega arith)
earlier_inside n body (Some place) (Err f) e b a h = go (ltb f.line (place + 1)) h
  where
    go : (t : Bool) → cond {A = Result (List ℕ) ScriptError} t (Err (fault_at n f)) (Err (bad_at n place)) ≡ Err e → Inside n (n + length body + 1) e
    go true h = let same : fault_at n f ≡ e = cc in subst (Inside n (n + length body + 1)) same (fault_inside n body f a)
    go false h =
        let same : bad_at n place ≡ e = cc in
        let few = placed body place b in
        subst (Inside n (n + length body + 1)) same (omega arith, omega arith)

code_inside : (kind : BlockKind) (n : ℕ) (body : List (List ℕ)) (e : ScriptError) → code_of kind n body ≡ Err e → Inside n (n + length body + 1) e
code_inside blocks.Program n body e h = earlier_inside n body (position is_bad body) (assembled (map or_empty body)) e refl refl h
code_inside blocks.Code n body e h = let r = lines_inside (n + 1) [] body e h in (omega arith, omega arith)

block_inside : (n : ℕ) (p : Parts) (kind : BlockKind) (words body : List (List ℕ)) (end : Option (List ℕ)) (e : ScriptError) → block_after n p kind words body end ≡ Err e → Inside n (n + (length body + 2)) e
unfolding block_after
block_inside n p kind words body end e h = elim (bind_err (at n (header_of p words)) (λ header. code_of kind n body >>= λ code. at (n + 1 + length body) (program_after p header code end)) e h) [
  | inl now ↦ let here = at_err n (header_of p words) e now in (omega arith, omega arith)
  | inr a ↦ elim (bind_err (code_of kind n body) (λ code. at (n + 1 + length body) (program_after p a.0 code end)) e a.2) [
    | inl now ↦ let here = code_inside kind n body e now in (omega arith, omega arith)
    | inr b ↦ let here = at_err (n + 1 + length body) (program_after p a.0 b.0 end) e b.2 in (omega arith, omega arith)
  ]
]

line_inside : (n : ℕ) (p : Parts) (section : Section) (e : ScriptError) → section_after n p section ≡ Err e → Inside n (n + line_count section) e
line_inside n p (Single line) e h = let here = at_err n (line_after n p line) e h in (omega arith, omega arith)
line_inside n p (Block kind words body end) e h = block_inside n p kind words body end e h

pub refusal : (sections : List Section) (n : ℕ) (p : Parts) (e : ScriptError) → sections_after n p sections ≡ Err e → IsFirstRefused sections n p e
unfolding sections_after
refusal [] n p e h = absurd cc
refusal (s ∷ others) n p e h = go (section_after n p s) refl (λ q g. refusal others (n + line_count s) q e g)
  where
    go : (r : Result Parts ScriptError) → section_after n p s ≡ r → ((q : Parts) → sections_after (n + line_count s) q others ≡ Err e → IsFirstRefused others (n + line_count s) q e) → IsFirstRefused (s ∷ others) n p e
    go (Err x) is more =
        let now : Err x ≡ Err e = sym (ap (λ (r : Result Parts ScriptError). r >>= λ q. sections_after (n + line_count s) q others) is) ∙ h in
        let same : x ≡ e = cc in
        let refused : section_after n p s ≡ Err e = is ∙ ap (λ (y : ScriptError). Err y) same in
        record { before = 0; number = n; parts = p; section = s; taken = refl; next = refl; refused = refused; inside = line_inside n p s e refused }
    go (Ok q) is more =
        let r = more q (sym (ap (λ (r : Result Parts ScriptError). r >>= λ q. sections_after (n + line_count s) q others) is) ∙ h) in
        record {
          before = suc r.before;
          number = r.number;
          parts = r.parts;
          section = r.section;
          taken = ap (λ (x : Result Parts ScriptError). x >>= λ q. sections_after (n + line_count s) q (take r.before others)) is ∙ r.taken;
          next = r.next;
          refused = r.refused;
          inside = r.inside;
        }
