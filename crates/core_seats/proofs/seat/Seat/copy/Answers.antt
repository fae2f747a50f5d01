use Rattle.core_seats.proofs.Copying.{copies_on}
use Rattle.core_seats.proofs.seat.Seat.copy.Goals as goal

pub returns-clause-copies : goal.returns-clause-copies
returns-clause-copies c = copies_on c.args.self.now c.copy_word.new.self c.args.word c.copy_word.result c.requires.trying c.copy_word.ensures.copies
