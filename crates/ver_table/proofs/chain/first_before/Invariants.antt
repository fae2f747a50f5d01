use Rattle.std.proofs.Common.{◌≡◌, drop}
use Rattle.std.specs.Prelude.{find}
use Rattle.kernel_model.specs.Room.{is_below}
use Rattle.interval.specs.Ranges.{number_of}
use Rattle.ver_table.specs.Slots.{begin_at}
use Rattle.ver_table.proofs.chain.first_before.Given as goal

abbrev pub invariant-loop-slot : goal.invariant-loop-slot
invariant-loop-slot l = find (λ k. is_below (begin_at l.begins k) (number_of l.hi)) (drop l.slot-index l.order) ≡ find (λ k. is_below (begin_at l.begins k) (number_of l.hi)) l.order
