use Rattle.slot_model.proofs.LiveCalls.{fetch_stands}
use Rattle.slot_model.proofs.calls.fetch_keeps_slots.Goals as goal

pub returns : goal.returns
returns c = λ m n o k device h own. fetch_stands m.whole m.sizes m.base m.state m.kept m.image n k o device h.lawful.live own h.stands
