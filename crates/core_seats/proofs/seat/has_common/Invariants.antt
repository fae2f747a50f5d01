use Rattle.std.proofs.Common.{◌≡◌, length}
use Rattle.std.specs.List.{list_any}
use Rattle.object_sets.specs.ObjectSets.{is_among}
use Rattle.core_seats.proofs.seat.has_common.Given as goal

-- what is left has a common one exactly if all have one
abbrev pub invariant-loop-o : goal.invariant-loop-o
invariant-loop-o l = list_any (λ o. is_among o l.written) l.left ≡ list_any (λ o. is_among o l.written) l.fn.reads

abbrev pub decreases-loop-o : goal.decreases-loop-o
decreases-loop-o l = length l.left
