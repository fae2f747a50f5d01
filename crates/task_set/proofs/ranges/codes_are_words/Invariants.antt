use Rattle.std.proofs.Common.{take}
use Rattle.std.specs.List.{AllByRecursion}
use Rattle.set_model.specs.Limits.{IsWord}
use Rattle.task_set.proofs.ranges.codes_are_words.Given as goal

abbrev pub invariant-loop-program : goal.invariant-loop-program
invariant-loop-program l = AllByRecursion (λ p. AllByRecursion IsWord p.code) (take l.program-index l.programs)
