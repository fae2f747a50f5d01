use Rattle.device_model.specs.Devices.{layout_on}
use Rattle.device_model.proofs.LaidOut.{laid_out_set}
use Rattle.device_model.proofs.Formatted.{format_write_first, format_write_at, format_write_last}
use Rattle.device_model.proofs.formats.format_goes_in_order.Goals as goal

pub returns-clause-first : goal.returns-clause-first
returns-clause-first g = format_write_first

pub returns-clause-word : goal.returns-clause-word
returns-clause-word g = λ d k t a b. format_write_at d.set (layout_on d) k (laid_out_set d.kind d.set t) a b

pub returns-clause-last : goal.returns-clause-last
returns-clause-last g = λ d t. format_write_last d.set (layout_on d) (laid_out_set d.kind d.set t)
