use Rattle.slot_model.proofs.LiveCalls.{grant_stands}
use Rattle.slot_model.proofs.calls.grant_begins_commit.Goals as goal

pub returns : goal.returns
returns c = λ m n k run i h own a e. grant_stands m.whole m.sizes m.base m.state m.kept m.image n k run i h.lawful h.stands own a e
