use Rattle.std.proofs.Common.{◌≡◌, take, length}
use Rattle.std.specs.List.{AllByRecursion}
use Rattle.set_model.specs.Sets.{TaskSet}
use Rattle.device_model.specs.IndexWords.{Index}
use Rattle.table_machine.specs.Tables.{Vacant}
use Rattle.vol_copy.specs.Tries.{IsFor}
use Rattle.core_seats.specs.Holding.{StandsFor}
use Rattle.kernel_core.proofs.power.clear_all.Given as goal

abbrev pub invariant-loop-k : goal.invariant-loop-k
invariant-loop-k l = record {
  count : length l.seats.items ≡ length l.initial.seats.items;
  kept : (set : TaskSet) → AllByRecursion (λ s. IsFor set s.attempt) l.initial.seats.items → AllByRecursion (λ s. IsFor set s.attempt) l.seats.items;
  vacant : (after : Index) → AllByRecursion (λ s. StandsFor s after Vacant) (take l.k l.seats.items);
}
