use Rattle.table_machine.proofs.Simulated.{event_simulates}
use Rattle.table_machine.proofs.events.event_simulates.Goals as goal

pub returns : goal.returns
returns g c = λ d e r ids. event_simulates d.setting d.base d.last d.tables d.words d.state e r.setting r.represents ids
