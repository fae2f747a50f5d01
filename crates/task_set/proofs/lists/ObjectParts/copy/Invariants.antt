use Rattle.std.proofs.Common.{◌≡◌, take}
use Rattle.task_set.proofs.lists.ObjectParts.copy.Given as goal

abbrev pub invariant-loop-object : goal.invariant-loop-object
invariant-loop-object l = l.items.items ≡ take l.object-index l.object-items
