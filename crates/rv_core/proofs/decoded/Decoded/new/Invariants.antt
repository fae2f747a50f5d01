use Rattle.std.proofs.Common.{◌≡◌, length}
use Rattle.rv_core.proofs.decoded.Decoded.new.Given as goal

abbrev pub invariant-loop-count : goal.invariant-loop-count
invariant-loop-count l = length l.known.items ≡ l.count
