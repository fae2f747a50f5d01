use Rattle.std.proofs.Common.{◌≡◌, ◌+◌, ◌<◌, get_or, length, arith}
use Rattle.commit_writer.specs.Courses.{no_object}
use Rattle.commit_writer.proofs.Left.{first_page, next_object, next_object_word}
use Rattle.commit_writer.proofs.Tables.{sized, some_size, some_words}
use Rattle.commit_writer.proofs.job.Job.after_object.Goals as goal

pub returns-then-word-size : goal.returns-then-word-size
returns-then-word-size c = λ g is_written words b p e.
    let s = sized g is_written words c.args.self.now c.args.nth c.args.set.now c.object.result b p.0 e c.object.ensures in
    next_object_word g is_written words c.args.self.now c.args.nth c.args.word p (omega (arith, s, c.size.ensures.exact, c.if-word-size.true))

pub returns-then-nth-len : goal.returns-then-nth-len
returns-then-nth-len c = λ g is_written words b p e.
    let s = sized g is_written words c.args.self.now c.args.nth c.args.set.now c.object.result b p.0 e c.object.ensures in
    let m : c.args.word + 1 ≡ length (words (get_or c.args.self.now.objects.items c.args.nth no_object).0) = omega (arith, s, c.size.ensures.exact, c.if-word-size.false, p.1) in
    let n : c.args.nth + 1 < length c.args.self.now.objects.items = omega (arith, c.if-nth-len.true, c.len.ensures) in
    next_object g words c.args.self.now c.args.nth c.args.word p m n (some_size g is_written words c.args.self.now (c.args.nth + 1) b n)

pub returns : goal.returns
returns c = λ g is_written words b p e.
    let s = sized g is_written words c.args.self.now c.args.nth c.args.set.now c.object.result b p.0 e c.object.ensures in
    let m : c.args.word + 1 ≡ length (words (get_or c.args.self.now.objects.items c.args.nth no_object).0) = omega (arith, s, c.size.ensures.exact, c.if-word-size.false, p.1) in
    first_page g words c.args.self.now c.args.nth c.args.word p m (omega (arith, c.if-nth-len.false, c.len.ensures)) b.some_page (some_words g is_written words c.args.self.now b)
