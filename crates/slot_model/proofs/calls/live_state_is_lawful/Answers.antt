use Rattle.slot_model.proofs.Going.{live_lawful}
use Rattle.slot_model.proofs.calls.live_state_is_lawful.Goals as goal

pub returns : goal.returns
returns c = λ whole sizes base s rests fit based h l. live_lawful whole sizes base s rests fit based h l
