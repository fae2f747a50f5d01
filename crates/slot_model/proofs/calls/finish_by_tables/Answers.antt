use Rattle.slot_model.proofs.LiveCalls.{live_verdict}
use Rattle.slot_model.proofs.calls.finish_by_tables.Goals as goal

pub returns : goal.returns
returns c = λ m t n k run h p own r. live_verdict m.whole m.sizes m.base m.state m.kept m.image t n k run h.lawful.live h.stands p own r
