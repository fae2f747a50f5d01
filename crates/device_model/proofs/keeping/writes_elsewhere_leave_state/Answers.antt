use Rattle.device_model.specs.Devices.{layout_on}
use Rattle.device_model.proofs.Free.{free_keeps}
use Rattle.device_model.proofs.keeping.writes_elsewhere_leave_state.Goals as goal

pub returns : goal.returns
returns g = λ d h log words f k. free_keeps d.set (layout_on d) h log words f k
