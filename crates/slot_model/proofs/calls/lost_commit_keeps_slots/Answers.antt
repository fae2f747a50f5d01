use Rattle.slot_model.proofs.LiveCalls.{loss_stands}
use Rattle.slot_model.proofs.calls.lost_commit_keeps_slots.Goals as goal

pub returns : goal.returns
returns c = λ m n left losses i h. loss_stands m.whole m.sizes m.base m.state m.kept m.image n i left losses h.lawful h.commits
