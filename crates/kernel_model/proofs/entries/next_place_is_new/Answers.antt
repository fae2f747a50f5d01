use Rattle.kernel_model.proofs.EntryItems.{next_place}
use Rattle.kernel_model.proofs.entries.next_place_is_new.Goals as goal

pub returns : goal.returns
returns c = λ whole t entries done rest p rs e h. next_place whole t entries done rest p rs e h
