use Rattle.std.proofs.Common.{refl}
use Rattle.commit_writer.specs.Rooms.{course_of}
use Rattle.commit_writer.proofs.Told.{tables_are_told}
use Rattle.commit_writer.proofs.writer.Writer.begin.Goals as goal

pub returns-clause-begun : goal.returns-clause-begun
returns-clause-begun c = λ h k isw words d.
    let set = c.args.set.now in
    let f = tables_are_told set c.args.plan.now c.args.before.now c.args.after.now h k isw words c.fill.new.self c.requires.set.limits c.fill.ensures.tabled d in
    let p = c.first-self.ensures (course_of set c.args.before.now.shift h k) isw words f in
    record { set_is = refl; begun = f.begun; left = p.0; at = p.1 }
