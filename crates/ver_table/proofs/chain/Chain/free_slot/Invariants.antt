use Rattle.std.proofs.Common.{◌≡◌, ℕ, ◌<◌, true, map}
use Rattle.interval.specs.Ranges.{range_of}
use Rattle.ver_table.specs.Places.{is_needed, is_taken}
use Rattle.ver_table.proofs.chain.Chain.free_slot.Given as goal

abbrev pub invariant-loop-slot : goal.invariant-loop-slot
invariant-loop-slot l = (j : ℕ) → j < l.slot → is_taken (is_needed l.o.0 (map range_of l.others) l.pins) l.self.stored j ≡ true
