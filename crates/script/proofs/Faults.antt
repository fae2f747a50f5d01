-- The assembler's fault is on one of its lines.
use Rattle.std.proofs.Common.{◌≡◌, ℕ, suc, ◌+◌, ◌<◌, ◌≤◌, List, [], ◌∷◌, length, map, Result, Ok, Err, Bor, ap, arith}
use Rattle.std.proofs.lemmas.List.{length-map}
use Rattle.rv_asm.specs.declared.cause.AsmCause.{AsmCause}
use Rattle.rv_asm.specs.Causes.{AsmError}
use Rattle.nv_base.specs.Refusals.{at}
use Rattle.nv_base.specs.Results.{◌>>=◌}
use Rattle.rv_asm.specs.Assembly.{assembled, line_after, lines_after}
use Rattle.rv_asm.specs.Labels.{Found, labels_of}
use Rattle.rv_asm.specs.Lines.{Line, parsed}

within : (found : Found) (n : ℕ) (words : List ℕ) (ls : List Line) (e : AsmError) → lines_after found n words ls ≡ Err e → e.line < n + length ls
unfolding lines_after
within found n words [] e h = absurd cc
within found n words (l ∷ ls) e h = go (line_after found n words l) h (λ more h. within found (n + 1) more ls e h)
  where
    go : (r : Result (List ℕ) AsmCause) → (at n r >>= λ more. lines_after found (n + 1) more ls) ≡ Err e
        → ((more : List ℕ) → lines_after found (n + 1) more ls ≡ Err e → e.line < n + 1 + length ls) → e.line < n + suc (length ls)
    go (Ok more) h later = omega (arith, later more h)
    go (Err cause) h later =
        let same : record { line = n; cause = cause } ≡ e = cc in
        omega (arith, ap (λ (e : AsmError). e.line) same)

pub fault_in : (lines : List (List ℕ)) (e : AsmError) → assembled lines ≡ Err e → e.line ≤ length lines
fault_in lines e h = omega (arith, within (labels_of (map parsed lines)) 1 [] (map parsed lines) e h, length-map lines parsed)

pub fault_small : (lines : List (Bor (List ℕ))) (e : AsmError) → assembled (map (λ line. line.now) lines) ≡ Err e → e.line ≤ length lines
fault_small lines e h = omega (arith, fault_in (map (λ line. line.now) lines) e h, length-map lines (λ (line : Bor (List ℕ)). line.now))
