use Rattle.std.proofs.Common.{sym, subst}
use Rattle.commit_writer.specs.declared.position.Position as own
use Rattle.commit_writer.specs.Courses.{IsNextPosition, IsPosition}
use Rattle.commit_writer.proofs.job.Job.after.Goals as goal

pub returns-in-Object : goal.returns-in-Object
returns-in-Object c = λ g is_written words b p e.
    subst (λ (q : own.Position). IsPosition g words c.args.self.now q → IsNextPosition g words c.args.self.now q c.after_object.result) (sym c.in-Object.is) (λ r. c.after_object.ensures g is_written words b r e) p

pub returns-in-Page : goal.returns-in-Page
returns-in-Page c = λ g is_written words b p e.
    subst (λ (q : own.Position). IsPosition g words c.args.self.now q → IsNextPosition g words c.args.self.now q c.after_page.result) (sym c.in-Page.is) (λ r. c.after_page.ensures g is_written words b r) p
