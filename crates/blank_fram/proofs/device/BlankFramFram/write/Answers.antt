use Rattle.std.proofs.Common.{◌∙◌}
use Rattle.std.proofs.lemmas.List.{length-set}
use Rattle.fram_dev.proofs.MadeIn.{write_more}
use Rattle.blank_fram.proofs.device.BlankFramFram.write.Goals as goal

pub invariant_of-self-clause-same_words : goal.invariant_of-self-clause-same_words
invariant_of-self-clause-same_words c = rw c.set.ensures (write_more _ _ _ _ _ _ c.push_reserved.ensures.items c.args.self.now.same_words)

pub invariant_of-self-clause-same_len : goal.invariant_of-self-clause-same_len
invariant_of-self-clause-same_len c = rw c.set.ensures (length-set _ _ _ ∙ c.args.self.now.same_len)
