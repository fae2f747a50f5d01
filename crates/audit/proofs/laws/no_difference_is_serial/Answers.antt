use Rattle.audit.proofs.NoDifference.{no_difference_serial}
use Rattle.audit.proofs.laws.no_difference_is_serial.Goals as goal

pub returns : goal.returns
returns c = λ set r h. no_difference_serial c.wrong_entry_has_no_finish.ensures c.next_place_is_new.ensures c.replayed_entries_are_serial.ensures set r h
