use Rattle.set_model.specs.Formatted.{formatted}
use Rattle.task_model.proofs.FitStates.{base_fit}
use Rattle.sim_run.proofs.FirstFit.{all_fit}
use Rattle.sim_run.proofs.finishes.first_state_is_fit.Goals as goal

pub returns : goal.returns
returns c = λ set count h. all_fit c.run_is_fit.ensures set (c.tasks_are_a_machine.ensures set) count (formatted set) (base_fit set (formatted set) (c.formatted_state_is_fit.ensures set h))
