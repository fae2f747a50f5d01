use Rattle.std.proofs.Common.{◌≡◌, map, take}
use Rattle.std.specs.List.{enumerate_from}
use Rattle.task_model.proofs.TurnLists.{turn_of}
use Rattle.task_model.proofs.turns.turns.Given as goal

abbrev pub invariant-loop-place : goal.invariant-loop-place
invariant-loop-place l = l.turns.items ≡ map turn_of (enumerate_from 0 (take l.place l.listing))
