use Rattle.std.proofs.Common.{◌≡◌, ℕ, ◌<◌, length, map}
use Rattle.std.specs.Prelude.{slice_index}
use Rattle.ver_table.specs.Chains.{chain_at, one_version}
use Rattle.ver_table.proofs.table.Versions.open.Given as goal

abbrev pub invariant-loop-o : goal.invariant-loop-o
invariant-loop-o l = record {
  number : length l.chains.items ≡ l.o;
  each : (j : ℕ) → j < l.o → chain_at l.chains.items j ≡ one_version (slice_index (map (λ p. p.slots) l.set.objects) j) (slice_index l.slots j) l.clock.0;
}
