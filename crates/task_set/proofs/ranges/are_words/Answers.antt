use Rattle.task_set.proofs.WordFacts.{all_words}
use Rattle.task_set.proofs.ranges.are_words.Goals as goal

pub returns : goal.returns
returns c = all_words c.args.words.now (λ i. (c.type_inv.words i).fits)
