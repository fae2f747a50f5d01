use Rattle.std.proofs.Common.{◌≡◌, vec_len}
use Rattle.shadow_index.proofs.state.State.room.Given as goal

abbrev pub invariant-loop : goal.invariant-loop
invariant-loop l = vec_len l.slots ≡ l.counter
