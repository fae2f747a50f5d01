use Rattle.slot_model.proofs.CodeSide.{caller_free}
use Rattle.slot_model.proofs.calls.caller_free_slot_by_tables.Goals as goal

pub returns : goal.returns
returns c = λ m t n o h p l. caller_free m.whole m.sizes m.base m.state m.kept m.image t n o h.lawful.live h.stands p l
