use Rattle.std.proofs.Common.{◌≡◌, map, take}
use Rattle.script.specs.Blocks.{or_empty}
use Rattle.script.proofs.program.or_empties.Given as goal

abbrev pub invariant-loop-line : goal.invariant-loop-line
invariant-loop-line l = map (λ line. line.now) l.lines.items ≡ map (λ line. or_empty line.now) (take l.line-index l.body)
