use Rattle.set_model.specs.Limits.{IsObject}
use Rattle.set_model.proofs.AtFacts.{all_at}
use Rattle.set_model.proofs.laws.object_is_within.Goals as goal

pub returns : goal.returns
returns c = λ set o h l. all_at IsObject set.objects _ o h.each_object l
