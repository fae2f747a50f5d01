use Rattle.table_machine.proofs.EachImage.{holds, holding_decodes}
use Rattle.table_machine.proofs.events.words_hold_durable.Goals as goal

pub returns : goal.returns
returns g c = record {
  keep = λ d r. holds d r;
  decode = λ kind d r e k. holding_decodes d.setting.set.format kind d d.words d.state r.setting e k (holds d r);
}
