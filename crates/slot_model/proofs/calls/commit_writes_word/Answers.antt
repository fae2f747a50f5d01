use Rattle.slot_model.proofs.LiveCalls.{live_write}
use Rattle.slot_model.proofs.calls.commit_writes_word.Goals as goal

pub returns : goal.returns
returns c = λ m n left i h. live_write m.whole m.sizes m.base m.state m.kept m.image n i left h.lawful h.commits
