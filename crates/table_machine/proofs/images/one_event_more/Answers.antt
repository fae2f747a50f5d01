use Rattle.table_machine.proofs.EachImage.{one_event}
use Rattle.table_machine.proofs.images.one_event_more.Goals as goal

pub returns : goal.returns
returns g c = λ x words t events n e h. one_event x words t events n e h
