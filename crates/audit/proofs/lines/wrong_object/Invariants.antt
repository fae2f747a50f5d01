use Rattle.std.proofs.Common.{◌≡◌, ◌+◌, drop}
use Rattle.std.specs.Prelude.{nat_eq}
use Rattle.std.specs.Cmp.Lexicographic.{pointwise}
use Rattle.audit.specs.Differences.{unlike_from}
use Rattle.audit.proofs.lines.wrong_object.Given as goal

abbrev pub invariant-loop-object : goal.invariant-loop-object
invariant-loop-object l = unlike_from (pointwise nat_eq) l.fn.line l.told l.left ≡ unlike_from (pointwise nat_eq) (l.fn.line + l.object) (drop l.object l.told) (drop l.object l.left)
