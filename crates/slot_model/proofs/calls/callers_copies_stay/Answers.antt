use Rattle.slot_model.proofs.Copies.{mark_copies}
use Rattle.slot_model.proofs.calls.callers_copies_stay.Goals as goal

pub returns : goal.returns
returns c = λ m n c left i k h own. mark_copies m.whole m.sizes m.base m.state m.kept m.image n c i left k h.lawful h.commits own
