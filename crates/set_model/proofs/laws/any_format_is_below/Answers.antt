use Rattle.set_model.proofs.LimitFacts.{few_objects, few_records, few_tasks}
use Rattle.set_model.proofs.laws.any_format_is_below.Goals as goal

pub returns : goal.returns
returns c = record { objects = few_objects; records = few_records; tasks = few_tasks }
