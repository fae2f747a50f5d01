use Rattle.slot_model.proofs.Going.{fetch_found}
use Rattle.slot_model.proofs.calls.fetch_finds_place.Goals as goal

pub returns : goal.returns
returns c = λ m t n o k h p own ne l. fetch_found m.whole m.sizes m.base m.state m.kept m.image t n o k h.lawful.live h.stands p own ne l
