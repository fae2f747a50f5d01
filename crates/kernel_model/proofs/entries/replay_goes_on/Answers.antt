use Rattle.kernel_model.proofs.EntrySteps.{one_after, one_good, one_wrong}
use Rattle.kernel_model.proofs.entries.replay_goes_on.Goals as goal

pub returns : goal.returns
returns c = λ whole t done rest p rs h. ((λ i e. (one_good whole t done p rs h i e, one_after rs (record { place = p.place; item = i }) t)), λ e. one_wrong whole t done rest p rs h e)
