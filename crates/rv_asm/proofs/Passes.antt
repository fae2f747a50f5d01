-- The two passes over lines.
use Rattle.std.proofs.Common.{◌≡◌, ℕ, ◌+◌, ◌<◌, List, ◌∷◌, length, get_or, map, drop, drop-cons, add-one, Bor, refl}
use Rattle.nv_base.proofs.ForCallers.{refuses_at, refuses_bind}
use Rattle.nv_base.specs.declared.refusals.Refusal.{Refusal}
use Rattle.nv_base.specs.Refusals.{Refuses, at, refusal_at}
use Rattle.rv_asm.specs.declared.cause.AsmCause.{AsmCause}
use Rattle.rv_asm.specs.Assembly.{line_after, lines_after}
use Rattle.rv_asm.specs.Labels.{Found, labels_from, line_count, noted, spot}
use Rattle.rv_asm.specs.Lines.{Line, parsed}

-- the lines from one on are this line and those after it
pub next_line : (lines : List (Bor (List ℕ))) (i : ℕ) (d : Bor (List ℕ)) → i < length lines
    → map parsed (map (λ line. line.now) (drop i lines)) ≡ parsed (get_or lines i d).now ∷ map parsed (map (λ line. line.now) (drop (i + 1) lines))
next_line lines i d lt = rw (drop-cons lines i d lt, add-one) refl

pub labels_step : (found next all : Found) (n place count : ℕ) (l : Line) (ls : List Line) → next ≡ noted found l.label (spot n place) → count ≡ line_count found l
    → labels_from found n place (l ∷ ls) ≡ all → labels_from next (n + 1) (place + count) ls ≡ all
unfolding labels_from
labels_step found next all n place count l ls e k so_far = rw (e, k) so_far

pub lines_fail : (found : Found) (n : ℕ) (words : List ℕ) (l : Line) (ls : List Line) (refusal : Refusal AsmCause) → Refuses refusal (line_after found n words l) → Refuses (refusal_at n refusal) (lines_after found n words (l ∷ ls))
unfolding lines_after
lines_fail found n words l ls refusal h =
    refuses_bind (refusal_at n refusal) (at n (line_after found n words l)) (λ more. lines_after found (n + 1) more ls) (refuses_at n refusal (line_after found n words l) h)
