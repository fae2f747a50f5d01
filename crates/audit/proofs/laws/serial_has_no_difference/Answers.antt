use Rattle.audit.proofs.NoDifference.{serial_no_difference}
use Rattle.audit.proofs.laws.serial_has_no_difference.Goals as goal

pub returns : goal.returns
returns c = λ set r line s h. serial_no_difference c.serial_entries_are_replayed.ensures c.replay_leaves_one_state.ensures set r line s h
