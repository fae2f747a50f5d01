use Rattle.slot_model.proofs.LiveCalls.{live_late}
use Rattle.slot_model.proofs.calls.commit_writes_index.Goals as goal

pub returns : goal.returns
returns c = λ m n left i h l. live_late m.whole m.sizes m.base m.state m.kept m.image n i left h.lawful l h.commits
