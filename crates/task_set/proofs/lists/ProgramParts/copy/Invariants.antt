use Rattle.std.proofs.Common.{◌≡◌, take}
use Rattle.task_set.proofs.lists.ProgramParts.copy.Given as goal

abbrev pub invariant-loop-program : goal.invariant-loop-program
invariant-loop-program l = l.items.items ≡ take l.program-index l.program-items
