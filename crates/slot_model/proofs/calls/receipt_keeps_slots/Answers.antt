use Rattle.slot_model.proofs.LiveCalls.{receipt_stands}
use Rattle.slot_model.proofs.calls.receipt_keeps_slots.Goals as goal

pub returns : goal.returns
returns c = λ m n k run i device h e. receipt_stands m.whole m.sizes m.base m.state m.kept m.image n k run i device h.lawful h.commits e
