use Rattle.std.proofs.Common.{◌≡◌, map, take}
use Rattle.set_model.specs.Names.{AreNames}
use Rattle.task_set.proofs.distinct_names.programs_are_named.Given as goal

abbrev pub invariant-loop-program : goal.invariant-loop-program
invariant-loop-program l = (map (λ n. n.now) l.taken.keys ≡ map (λ o. o.name) (take l.program-index l.programs)) × AreNames (map (λ n. n.now) l.taken.keys)
