use Rattle.slot_model.proofs.LiveCalls.{live_commit_named, live_named}
use Rattle.slot_model.specs.Marks.{committing}
use Rattle.slot_model.proofs.calls.commit_slots_hold.Goals as goal

pub returns : goal.returns
returns c = λ m n left o i h l. (live_named m.whole m.sizes m.base m.state m.kept m.image (committing m.state n i left) h.lawful h.commits.stands o l, λ few. live_commit_named m.whole m.sizes m.base m.state m.kept m.image n i left h.lawful h.commits few o l)
