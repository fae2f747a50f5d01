use Rattle.std.proofs.Common.{length, ap, arith}
use Rattle.vol_copy.proofs.Keeping.{wrote}
use Rattle.vol_copy.proofs.StepTurns.{next_is, traps_write, writes_words}
use Rattle.vol_copy.proofs.attempt.Attempt.write_object.Goals as goal

pub returns-in-Err-clause-serves : goal.returns-in-Err-clause-serves
returns-in-Err-clause-serves c = traps_write c.args.set.now c.args.self.now c.end.new.self c.end.result c.args.object c.args.at c.in-Err.cause c.in-Err.ensures.refusal c.end.ensures.exact c.end.ensures.answer

pub returns-clause-kept : goal.returns-clause-kept
returns-clause-kept c =
    wrote c.args.set.now c.args.self.now c.resume.new.self c.in-Ok.o.0 c.args.at c.take_from.new.self c.add.new.self c.requires.kept c.requires.running (ap (λ m. length m.memory) (next_is c.resume.ensures.exact))
    (omega (arith, c.in-Ok.ensures.object, c.in-Ok.ensures.inside)) c.take_from.ensures c.add.ensures.added

pub returns-clause-serves : goal.returns-clause-serves
returns-clause-serves c =
    writes_words c.args.set.now c.args.self.now c.resume.new.self c.in-Ok.o.0 c.args.object c.args.at c.take_from.new.self c.add.new.self c.requires.running c.in-Ok.ensures.object c.in-Ok.ensures.refusal
    (omega (arith, c.in-Ok.ensures.object, c.in-Ok.ensures.inside, c.requires.kept.words.number)) c.requires.kept.increasing
    (c.requires.kept.words.sizes c.in-Ok.o.0 (omega (arith, c.in-Ok.ensures.object, c.in-Ok.ensures.inside, c.requires.kept.words.number))) c.take_from.ensures c.add.ensures.added (next_is c.resume.ensures.exact)
