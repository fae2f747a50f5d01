use Rattle.std.proofs.Common.{◌≡◌, ◌+◌, [], map, drop}
use Rattle.script.specs.Blocks.{code_lines_after}
use Rattle.script.proofs.block.code_lines.Given as goal

abbrev pub invariant-loop-line : goal.invariant-loop-line
invariant-loop-line l = record {
  lines : code_lines_after l.number l.code (map (λ line. line.now) (drop l.line-index l.body)) ≡ code_lines_after l.n [] (map (λ line. line.now) l.body);
  number : l.number ≡ l.n + l.line-index;
}
