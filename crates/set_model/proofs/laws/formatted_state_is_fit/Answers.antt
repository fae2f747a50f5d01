use Rattle.set_model.proofs.FormattedFacts.{formatted_is_base}
use Rattle.set_model.proofs.laws.formatted_state_is_fit.Goals as goal

pub returns : goal.returns
returns c = formatted_is_base
