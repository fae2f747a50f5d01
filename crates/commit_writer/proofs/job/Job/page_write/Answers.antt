use Rattle.std.proofs.Common.{arith}
use Rattle.commit_writer.proofs.Tables.{page_place, page_word_fits}
use Rattle.commit_writer.proofs.job.Job.page_write.Goals as goal

pub overflow_add-result : goal.overflow_add-result
overflow_add-result c =
    let h = c.requires.0 in
    let isw = c.requires.1 in
    let words = c.requires.2 in
    let b = c.requires.3 in
    let p = c.requires.4 in
    let job = c.args.self.now in
    let e = page_place h isw words job c.args.nth c.page-page.result c.copy_of.result c.page_at-place.result b p.0 c.page-page.ensures (c.copy_of.ensures.exact h.device b.places) (c.page_at-place.ensures h.device b.places) in
    omega (arith, e, c.need.ensures h.device b.places, page_word_fits h isw words job c.args.nth c.args.word b p.0 p.1)
