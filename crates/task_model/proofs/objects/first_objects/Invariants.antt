use Rattle.std.proofs.Common.{◌≡◌, map, take}
use Rattle.task_model.proofs.objects.first_objects.Given as goal

abbrev pub invariant-loop-object : goal.invariant-loop-object
invariant-loop-object l = l.objects ≡ map (λ o. o.first) (take l.object l.set.objects)
