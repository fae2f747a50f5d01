use Rattle.table_machine.proofs.EachImage.{image_holds, image_reached, holding_decodes}
use Rattle.table_machine.specs.Configurations.{image_at, state_at}
use Rattle.table_machine.proofs.images.each_image_holds_durable.Goals as goal

pub returns : goal.returns
returns g c = record {
  reached = λ d events k r ids l. image_reached d events k r ids l;
  holds = λ d events n k r ids l w. image_holds d events n k r ids l w;
  decodes = λ kind d events n k r ids e f l w. holding_decodes d.setting.set.format kind d (image_at d events k) (state_at d events n) r.setting e f (image_holds d events n k r ids l w);
}
