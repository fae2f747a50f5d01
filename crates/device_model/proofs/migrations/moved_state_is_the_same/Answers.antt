use Rattle.std.proofs.Common.{refl}
use Rattle.device_model.proofs.migrations.moved_state_is_the_same.Goals as goal

pub returns : goal.returns
returns g = λ set h. refl
