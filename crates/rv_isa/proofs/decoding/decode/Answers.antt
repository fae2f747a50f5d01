use Rattle.std.proofs.Common.{arith}
use Rattle.rv_isa.proofs.WordBack.{ranges, no_row}
use Rattle.rv_isa.proofs.decoding.decode.Goals as goal

pub returns-clause-none : goal.returns-clause-none
returns-clause-none c = rw c.read.ensures (no_row c.args.word)

pub returns-clause-ranges : goal.returns-clause-ranges
returns-clause-ranges c = ranges c.args.word c.read.result (omega arith) c.read.ensures
