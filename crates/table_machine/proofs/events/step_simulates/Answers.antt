use Rattle.table_machine.proofs.Rooms.{step_simulates}
use Rattle.table_machine.proofs.events.step_simulates.Goals as goal

pub returns : goal.returns
returns g c = λ x t words e fit room. step_simulates x t words e fit room
