use Rattle.std.proofs.Common.{◌≡◌, ℕ, ◌+◌, List, [], ◌∷◌, get_or, map, drop, Bor, Result, subst}
use Rattle.rv_asm.specs.Causes.{AsmError}
use Rattle.nv_base.specs.Refusals.{Refuses, refusal_at}
use Rattle.rv_asm.specs.Assembly.{lines_after}
use Rattle.rv_asm.specs.Found.{find_in}
use Rattle.rv_asm.specs.Lines.{Line, parsed}
use Rattle.rv_asm.proofs.Passes.{next_line, lines_fail}
use Rattle.rv_asm.proofs.assembler.encode_lines.Goals as goal

pub returns-in-Err : goal.returns-in-Err
returns-in-Err c =
    let d : Bor (List ℕ) = record { ref_ptr = (0, 0); now = [] } in
    let line : Line = parsed (get_or c.args.lines.now c.loop-line.line-index d).now in
    let rest : List Line = map parsed (map (λ line. line.now) (drop (c.loop-line.line-index + 1) c.args.lines.now)) in
    let all : Result (List ℕ) AsmError = lines_after (find_in c.args.labels.now) 1 [] (map parsed (map (λ line. line.now) c.args.lines.now)) in
    let so_far : lines_after (find_in c.args.labels.now) c.loop-line.number c.loop-line.words.items (line ∷ rest) ≡ all =
    rw (next_line c.args.lines.now c.loop-line.line-index d c.loop-line-test.true) at c.loop-line.invariant.words in
    let fails = lines_fail (find_in c.args.labels.now) c.loop-line.number c.loop-line.words.items line rest c.in-Err.refusal c.in-Err.ensures.line in
    rw c.at.ensures (subst (λ (r : Result (List ℕ) AsmError). Refuses (refusal_at c.loop-line.number c.in-Err.refusal) r) so_far fails)
