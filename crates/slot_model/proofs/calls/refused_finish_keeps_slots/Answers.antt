use Rattle.slot_model.proofs.LiveCalls.{refused_stands}
use Rattle.slot_model.proofs.calls.refused_finish_keeps_slots.Goals as goal

pub returns : goal.returns
returns c = λ m n k run device h e. refused_stands m.whole m.sizes m.base m.state m.kept m.image n k run device h.lawful.live h.stands e
