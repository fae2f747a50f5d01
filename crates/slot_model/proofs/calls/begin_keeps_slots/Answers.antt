use Rattle.slot_model.proofs.LiveCalls.{begin_stands}
use Rattle.slot_model.proofs.calls.begin_keeps_slots.Goals as goal

pub returns : goal.returns
returns c = λ m n h. begin_stands m.whole m.sizes m.base m.state m.kept m.image n h.lawful.live h.stands
