use Rattle.slot_model.proofs.LiveCalls.{live_named}
use Rattle.kernel_model.specs.Live.{cores_of}
use Rattle.slot_model.proofs.calls.newest_slots_hold.Goals as goal

pub returns : goal.returns
returns c = λ m o h l. live_named m.whole m.sizes m.base m.state m.kept m.image (cores_of m.state.marks) h.lawful h.stands o l
