use Rattle.device_model.proofs.Counts.{fit_on, plain_sizes}
use Rattle.device_model.proofs.commits.numbers_on_device_are_fit.Goals as goal

pub returns-clause-fit : goal.returns-clause-fit
returns-clause-fit g = fit_on

pub returns-clause-format_1 : goal.returns-clause-format_1
returns-clause-format_1 g = plain_sizes
