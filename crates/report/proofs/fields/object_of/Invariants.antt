use Rattle.std.proofs.Common.{◌≤◌, map, nat_eq}
use Rattle.std.specs.Cmp.Lexicographic.{pointwise}
use Rattle.std.specs.List.{position_or_len}
use Rattle.report.proofs.fields.object_of.Given as goal

abbrev pub invariant-loop-object : goal.invariant-loop-object
invariant-loop-object l = l.object ≤ position_or_len (λ name. pointwise nat_eq name l.name) (map (λ o. o.name) l.set.objects)
