use Rattle.slot_model.proofs.LiveCalls.{live_read}
use Rattle.slot_model.proofs.calls.fetch_by_tables.Goals as goal

pub returns : goal.returns
returns c = λ m t n o k v h p own ne l e. live_read m.whole m.sizes m.base m.state m.kept m.image t n o k v h.lawful.live h.stands p own ne l e
