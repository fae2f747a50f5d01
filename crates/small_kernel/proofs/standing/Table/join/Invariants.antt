use Rattle.std.proofs.Common.{◌≡◌, map}
use Rattle.ver_table.specs.Chains.{Chain}
use Rattle.small_kernel.proofs.standing.Table.join.Given as goal

abbrev pub invariant-loop-o : goal.invariant-loop-o
invariant-loop-o l = record { slots : map (λ (c : Chain). c.slots) l.self ≡ map (λ (c : Chain). c.slots) l.fn.self }
