use Rattle.std.proofs.Common.{arith}
use Rattle.commit_writer.proofs.Told.{first_object, first_page_of, none_of}
use Rattle.commit_writer.proofs.job.Job.first.Goals as goal

pub returns-then-len-gt0 : goal.returns-then-len-gt0
returns-then-len-gt0 c = λ g isw words f. first_object g isw words c.args.self.now f (omega (arith, c.if-len-gt0.true, c.len.ensures))

pub returns : goal.returns
returns c = λ g isw words f. first_page_of g isw words c.args.self.now f (none_of c.args.self.now.objects.items (omega (arith, c.if-len-gt0.false, c.len.ensures)))
