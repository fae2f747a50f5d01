use Rattle.table_machine.proofs.Rooms.{room_suffices}
use Rattle.table_machine.proofs.events.room_suffices.Goals as goal

pub returns : goal.returns
returns g c = λ d e r room. room_suffices d.setting d.base d.last d.tables d.words d.state e r.represents room
