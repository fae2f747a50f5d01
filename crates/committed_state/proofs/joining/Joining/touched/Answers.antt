use Rattle.std.proofs.Common.{sym, ◌∙◌}
use Rattle.committed_state.proofs.Touching.{one_added}
use Rattle.committed_state.proofs.joining.Joining.touched.Goals as goal

pub loop-o-preserved : goal.loop-o-preserved
loop-o-preserved c = λ p. sym (one_added p c.in-Some.o.0 c.loop-o.all c.add.new.self c.take_least.new.self c.loop-o.left c.in-Some.ensures.taken c.add.ensures.added) ∙ c.loop-o.invariant p
