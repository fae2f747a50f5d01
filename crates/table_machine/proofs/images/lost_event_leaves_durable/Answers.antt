use Rattle.table_machine.proofs.EachImage.{holds, holds_after}
use Rattle.table_machine.proofs.images.lost_event_leaves_durable.Goals as goal

pub returns : goal.returns
returns g c = record {
  before = λ d r. holds d r;
  after = λ d e r ids. holds_after d e r ids;
}
