use Rattle.device_model.proofs.Steps.{commit_lists}
use Rattle.device_model.proofs.commits.commit_lists_finish.Goals as goal

pub returns : goal.returns
returns g = commit_lists
