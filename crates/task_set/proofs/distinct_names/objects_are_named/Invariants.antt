use Rattle.std.proofs.Common.{◌≡◌, map, take}
use Rattle.set_model.specs.Names.{AreNames}
use Rattle.task_set.proofs.distinct_names.objects_are_named.Given as goal

abbrev pub invariant-loop-object : goal.invariant-loop-object
invariant-loop-object l = (map (λ n. n.now) l.taken.keys ≡ map (λ o. o.name) (take l.object-index l.objects)) × AreNames (map (λ n. n.now) l.taken.keys)
