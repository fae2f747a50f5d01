use Rattle.std.proofs.Common.{◌≡◌, ◌≤◌, ◌+◌, [], drop, map, vec_len}
use Rattle.rv_asm.specs.Found.{find_in}
use Rattle.rv_asm.specs.Assembly.{lines_after}
use Rattle.rv_asm.specs.Lines.{parsed}
use Rattle.rv_asm.proofs.assembler.encode_lines.Given as goal

abbrev pub invariant-loop-line : goal.invariant-loop-line
invariant-loop-line l = record {
  words : lines_after (find_in l.labels) l.number l.words.items (map parsed (map (λ line. line.now) (drop l.line-index l.lines))) ≡ lines_after (find_in l.labels) 1 [] (map parsed (map (λ line. line.now) l.lines));
  number : l.number ≡ l.line-index + 1;
  few : vec_len l.words ≤ 1024;
}
