use Rattle.std.proofs.Common.{◌≡◌, ◌≤◌, ◌+◌, ◌*◌, drop, map}
use Rattle.rv_asm.specs.Found.{find_in}
use Rattle.rv_asm.specs.Labels.{labels_from, labels_of}
use Rattle.rv_asm.specs.Lines.{parsed}
use Rattle.rv_asm.proofs.assembler.labels_of.Given as goal

abbrev pub invariant-loop-line : goal.invariant-loop-line
invariant-loop-line l = record {
  labels : labels_from (find_in l.labels) l.number l.place (map parsed (map (λ line. line.now) (drop l.line-index l.lines))) ≡ labels_of (map parsed (map (λ line. line.now) l.lines));
  number : l.number ≡ l.line-index + 1;
  place : l.place ≤ 2 * l.line-index;
}
