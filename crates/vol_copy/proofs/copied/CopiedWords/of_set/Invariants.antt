use Rattle.std.proofs.Common.{◌≡◌, map, take}
use Rattle.vol_copy.proofs.copied.CopiedWords.of_set.Given as goal

abbrev pub invariant-loop-object : goal.invariant-loop-object
invariant-loop-object l = l.copies-inside.items.items ≡ map (λ o. o.first) (take l.object l.set.objects)
