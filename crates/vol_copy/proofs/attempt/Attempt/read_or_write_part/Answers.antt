use Rattle.std.proofs.Common.{◌<◌, subst, sym, arith}
use Rattle.set_model.specs.Sets.{object_at}
use Rattle.vol_copy.specs.Wants.{part_service}
use Rattle.vol_copy.proofs.Obtaining.{obtained_kept, obtained_serves, part_waits, traps_part}
use Rattle.vol_copy.proofs.attempt.Attempt.read_or_write_part.Goals as goal

pub returns-in-Err-clause-serves : goal.returns-in-Err-clause-serves
returns-in-Err-clause-serves c =
    traps_part c.args.set.now c.args.self.now c.end.new.self c.end.result c.args.object c.args.want c.part.result c.in-Err.cause c.part.ensures c.in-Err.ensures.refusal c.end.ensures.exact c.end.ensures.answer

pub returns-clause-kept : goal.returns-clause-kept
returns-clause-kept c =
    obtained_kept c.args.set.now c.args.self.now c.obtain.new.self c.in-Ok.o c.obtain.result c.obtain.ensures.obtains c.requires.kept c.requires.running (omega (arith, c.in-Ok.ensures.object, c.in-Ok.ensures.inside))
    (subst (λ o. 0 < (object_at c.args.set.now o).size) (sym c.in-Ok.ensures.object) c.in-Ok.ensures.some)

pub returns-clause-serves : goal.returns-clause-serves
returns-clause-serves c =
    obtained_serves c.args.set.now c.args.self.now c.obtain.new.self c.in-Ok.o c.obtain.result (part_service c.args.object c.args.want) c.obtain.ensures.obtains c.requires.kept c.requires.running
    (omega (arith, c.in-Ok.ensures.object, c.in-Ok.ensures.inside)) (subst (λ o. 0 < (object_at c.args.set.now o).size) (sym c.in-Ok.ensures.object) c.in-Ok.ensures.some)
    (part_waits c.args.set.now c.args.self.now c.args.object c.in-Ok.o.0 c.args.want c.part.result c.in-Ok.ensures.object c.part.ensures c.in-Ok.ensures.refusal)
