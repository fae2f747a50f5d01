use Rattle.vol_copy.proofs.SeatTurns.{open_turns}
use Rattle.vol_copy.proofs.laws.open_read_is_a_turn.Goals as goal

pub returns : goal.returns
returns c = open_turns
