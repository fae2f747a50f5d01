use Rattle.vol_copy.proofs.SeatTurns.{copy_turns}
use Rattle.vol_copy.proofs.laws.copy_word_is_a_turn.Goals as goal

pub returns : goal.returns
returns c = copy_turns
