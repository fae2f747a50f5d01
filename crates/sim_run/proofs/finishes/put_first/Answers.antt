use Rattle.std.proofs.Common.{subst}
use Rattle.task_model.specs.Finals.{IsFit}
use Rattle.task_model.specs.FirstFinishes.{Finished}
use Rattle.sim_run.proofs.finishes.put_first.Goals as goal

pub text_of-requires : goal.text_of-requires
text_of-requires g c = subst (λ (f : Finished). IsFit c.args.set.now f.state) c.in-Ok.ensures.exact (c.first_state_is_fit.ensures c.args.set.now c.args.count c.format.ensures.limits)
