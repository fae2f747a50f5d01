use Rattle.std.proofs.Common.{◌≡◌, ℕ, ◌+◌, List, [], ◌∷◌, get_or, map, drop, Bor, arith}
use Rattle.rv_asm.specs.Found.{find_in}
use Rattle.rv_asm.specs.Labels.{labels_from, labels_of}
use Rattle.rv_asm.specs.Lines.{Line, parsed}
use Rattle.rv_asm.proofs.Passes.{next_line, labels_step}
use Rattle.rv_asm.proofs.assembler.labels_of.Goals as goal

pub loop-line-preserved : goal.loop-line-preserved
loop-line-preserved c =
    let d : Bor (List ℕ) = record { ref_ptr = (0, 0); now = [] } in
    let line : Line = parsed (get_or c.args.lines.now c.loop-line.line-index d).now in
    let rest : List Line = map parsed (map (λ line. line.now) (drop (c.loop-line.line-index + 1) c.args.lines.now)) in
    let so_far : labels_from (find_in c.loop-line.labels) c.loop-line.number c.loop-line.place (line ∷ rest) ≡ labels_of (map parsed (map (λ line. line.now) c.args.lines.now)) =
    rw (next_line c.args.lines.now c.loop-line.line-index d c.loop-line-test.true) at c.loop-line.invariant.labels in
    record {
      labels = labels_step (find_in c.loop-line.labels) (find_in c.note_line.new.labels) _ c.loop-line.number c.loop-line.place c.in_ok-place.field-0 line rest c.in_ok-place.ensures.labels c.in_ok-place.ensures.count.0 so_far;
      number = omega arith;
      place = omega (arith, c.in_ok-place.ensures.count.1);
    }
