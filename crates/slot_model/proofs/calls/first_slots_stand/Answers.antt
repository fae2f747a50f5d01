use Rattle.slot_model.proofs.LiveCalls.{live_first}
use Rattle.slot_model.proofs.calls.first_slots_stand.Goals as goal

pub returns : goal.returns
returns c = λ sizes base callers limit named image sized h. live_first sizes base callers limit named image sized h
