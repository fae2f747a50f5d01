use Rattle.device_model.proofs.PlainLaws.{plain_head, plain_index}
use Rattle.device_model.proofs.format_1.format_1_is_read_in_order.Goals as goal

pub returns-clause-head : goal.returns-clause-head
returns-clause-head g = plain_head

pub returns-clause-index : goal.returns-clause-index
returns-clause-index g = plain_index
