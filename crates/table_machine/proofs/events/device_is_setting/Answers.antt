use Rattle.table_machine.proofs.Opened.{kind_setting, plain-sizes}
use Rattle.table_machine.proofs.events.device_is_setting.Goals as goal

pub returns : goal.returns
returns g c = record { setting = λ steps kind set h. kind_setting steps kind set h; sizes = λ steps set. plain-sizes steps set }
