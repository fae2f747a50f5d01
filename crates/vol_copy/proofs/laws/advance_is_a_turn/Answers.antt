use Rattle.vol_copy.proofs.SeatTurns.{advance_turns}
use Rattle.vol_copy.proofs.laws.advance_is_a_turn.Goals as goal

pub returns : goal.returns
returns c = advance_turns
