use Rattle.device_model.proofs.PlainLaws.{plain_need}
use Rattle.device_model.proofs.format_1.format_1_is_counted.Goals as goal

pub returns : goal.returns
returns g = plain_need
