use Rattle.device_format.proofs.Images.{format_all_image}
use Rattle.device_format.proofs.laws.whole_format_holds_first.Goals as goal

pub returns : goal.returns
returns c = format_all_image
