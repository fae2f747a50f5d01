use Rattle.std.proofs.Common.{◌≡◌, take}
use Rattle.task_model.proofs.objects.Objects.copy.Given as goal

abbrev pub invariant-loop-words : goal.invariant-loop-words
invariant-loop-words l = l.items.items ≡ take l.words-index l.words-items
