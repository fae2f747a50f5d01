use Rattle.set_model.proofs.AtFacts.{named_at}
use Rattle.set_model.proofs.laws.object_is_named.Goals as goal

pub returns : goal.returns
returns c = λ set o h l. named_at (λ o. o.name) set.objects _ o h.objects.each l
