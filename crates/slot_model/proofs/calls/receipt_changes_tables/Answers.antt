use Rattle.slot_model.proofs.LiveCalls.{live_tables}
use Rattle.slot_model.proofs.Going.{mark_cut}
use Rattle.slot_model.proofs.calls.receipt_changes_tables.Goals as goal

pub returns : goal.returns
returns c = λ m t n left i h p. (live_tables m.whole m.sizes m.base m.state m.kept m.image t n i left h.lawful h.commits p, λ c k own. mark_cut m.whole m.sizes m.base m.state m.kept m.image n c i left k h.lawful h.commits own)
