use Rattle.device_format.proofs.Images.{format_image}
use Rattle.device_format.proofs.laws.cut_format_is_old_blank_or_first.Goals as goal

pub returns : goal.returns
returns c = format_image
