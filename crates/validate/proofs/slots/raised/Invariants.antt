use Rattle.std.proofs.Common.{◌≡◌, ℕ, length}
use Rattle.object_sets.specs.ObjectSets.{AreBelow}
use Rattle.interval.specs.Ranges.{range_of}
use Rattle.table_machine.specs.Tables.{chain_at}
use Rattle.ver_table.specs.Tabled.{all_tabled}
use Rattle.validate.proofs.Raises.{raised_over}
use Rattle.validate.proofs.slots.raised.Given as goal

-- what is left raises it to what all raise the first one to
abbrev pub invariant-loop-o : goal.invariant-loop-o
invariant-loop-o l = let bounds = λ (o : ℕ). (chain_at (all_tabled l.versions) o).bound in record {
  below : AreBelow (length l.versions) l.left;
  same : raised_over bounds l.left (range_of l.interval) ≡ raised_over bounds l.fn.written (range_of l.fn.reads);
}

abbrev pub decreases-loop-o : goal.decreases-loop-o
decreases-loop-o l = length l.left
