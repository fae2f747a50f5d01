use Rattle.std.proofs.Common.{refl}
use Rattle.device_model.proofs.formats.first_state_is_formatted.Goals as goal

pub returns : goal.returns
returns g = λ l set. refl
