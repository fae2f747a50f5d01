use Rattle.std.proofs.Common.{◌≡◌, sym, subst}
use Rattle.commit_writer.specs.declared.position.Position as own
use Rattle.commit_writer.specs.Courses.{IsPosition, first_left}
use Rattle.commit_writer.proofs.job.Job.write_at.Goals as goal

pub returns-in-Page : goal.returns-in-Page
returns-in-Page g c = λ h b p.
    let words = g.C.Copies.words c.args.copies.now in
    subst (λ (q : own.Position). IsPosition h words c.args.self.now q → c.page_write.result ≡ first_left h words c.args.self.now q) (sym c.in-Page.is) (λ r. c.page_write.ensures h (g.C.Copies.is_written c.args.copies.now) words b r) p
