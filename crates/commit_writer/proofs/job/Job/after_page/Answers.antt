use Rattle.std.proofs.Common.{◌≡◌, ◌+◌, arith}
use Rattle.device_model.specs.Devices.{layout_on}
use Rattle.commit_writer.proofs.Left.{next_page, next_page_word, then_root}
use Rattle.commit_writer.proofs.Tables.{some_words}
use Rattle.commit_writer.proofs.job.Job.after_page.Goals as goal

pub returns-then-word-page_words : goal.returns-then-word-page_words
returns-then-word-page_words c = λ g is_written words b p. next_page_word g words c.args.self.now c.args.nth c.args.word p (omega (arith, c.page_words.ensures g.device b.places, c.if-word-page_words.true))

pub returns-then-nth-len : goal.returns-then-nth-len
returns-then-nth-len c = λ g is_written words b p.
    let e : c.args.word + 1 ≡ (layout_on g.device).page_words = omega (arith, c.page_words.ensures g.device b.places, c.if-word-page_words.false, p.1) in
    next_page g words c.args.self.now c.args.nth c.args.word p e (omega (arith, c.if-nth-len.true, c.len.ensures)) (some_words g is_written words c.args.self.now b)

pub returns : goal.returns
returns c = λ g is_written words b p.
    let e : c.args.word + 1 ≡ (layout_on g.device).page_words = omega (arith, c.page_words.ensures g.device b.places, c.if-word-page_words.false, p.1) in
    then_root g words c.args.self.now c.args.nth c.args.word p e (omega (arith, c.if-nth-len.false, c.len.ensures))
