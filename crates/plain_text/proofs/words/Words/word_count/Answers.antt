use Rattle.std.proofs.Common.{inl, arith}
use Rattle.plain_text.proofs.Cuts.{words_few}
use Rattle.plain_text.proofs.words.Words.word_count.Goals as goal

pub count-requires-clause-fits : goal.count-requires-clause-fits
count-requires-clause-fits c = inl (omega (arith, words_few c.args.self.rest.now, c.ranges.self))
