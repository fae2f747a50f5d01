use Rattle.std.proofs.Common.{length, ap, arith}
use Rattle.vol_copy.proofs.Keeping.{copies_last}
use Rattle.vol_copy.proofs.WordTurns.{last, more}
use Rattle.vol_copy.proofs.attempt.Attempt.copy.Goals as goal

pub returns-then-from-get-clause-copies : goal.returns-then-from-get-clause-copies
returns-then-from-get-clause-copies c =
    more c.args.self.now c.args.object c.args.want c.args.copied c.args.word (length c.get.result.now) c.put.new.self c.requires.copying c.put.ensures (ap length c.get.ensures.exact) (omega (arith, c.if-from-get.true, c.from.ensures))

pub returns-clause-kept : goal.returns-clause-kept
returns-clause-kept c = λ s h. copies_last s c.args.self.now c.receive.new.self c.args.object c.args.want c.args.copied c.args.word c.put.new.self c.requires.copying c.put.ensures h c.receive.ensures.exact c.receive.ensures.room

pub returns-clause-copies : goal.returns-clause-copies
returns-clause-copies c =
    last c.args.self.now c.receive.new.self c.args.object c.args.want c.args.copied c.args.word (length c.get.result.now) c.put.new.self c.requires.copying c.put.ensures c.receive.ensures.exact (ap length c.get.ensures.exact)
    (omega (arith, c.if-from-get.false, c.from.ensures))
