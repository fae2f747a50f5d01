use Rattle.slot_model.proofs.LiveCalls.{live_free}
use Rattle.slot_model.proofs.calls.commit_takes_spare_slots.Goals as goal

pub returns : goal.returns
returns c = λ m n left i h. live_free m.whole m.sizes m.base m.state m.kept m.image n i left h.lawful h.commits
