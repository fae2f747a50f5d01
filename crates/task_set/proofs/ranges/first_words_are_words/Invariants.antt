use Rattle.std.proofs.Common.{take}
use Rattle.std.specs.List.{AllByRecursion}
use Rattle.set_model.specs.Limits.{IsWord}
use Rattle.task_set.proofs.ranges.first_words_are_words.Given as goal

abbrev pub invariant-loop-object : goal.invariant-loop-object
invariant-loop-object l = AllByRecursion (λ o. AllByRecursion IsWord o.first) (take l.object-index l.objects)
