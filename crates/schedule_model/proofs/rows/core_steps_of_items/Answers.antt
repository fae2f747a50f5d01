use Rattle.std.proofs.Common.{refl}
use Rattle.schedule_model.specs.CoreSteps.{repeated, words, core_steps}
use Rattle.schedule_model.specs.Failures.{with_failures}
use Rattle.schedule_model.proofs.rows.core_steps_of_items.Goals as goal

pub returns : goal.returns
unfolding repeated words core_steps with_failures
returns c = (refl, (refl, refl, refl))
