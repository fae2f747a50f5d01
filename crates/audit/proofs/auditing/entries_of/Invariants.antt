use Rattle.std.proofs.Common.{◌≡◌, map, take}
use Rattle.audit.proofs.auditing.entries_of.Given as goal

abbrev pub invariant-loop-entry : goal.invariant-loop-entry
invariant-loop-entry l = l.entries.items ≡ map (λ p. p.1) (take l.entry-index l.listing)
