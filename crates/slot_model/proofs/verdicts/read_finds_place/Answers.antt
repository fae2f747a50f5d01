use Rattle.slot_model.proofs.Going.{read_found}
use Rattle.slot_model.proofs.verdicts.read_finds_place.Goals as goal

pub returns : goal.returns
returns g c = λ m t n o a h p at ne l. read_found m.world m.floor m.state m.kept m.image t n o a h.lawful h.stands p at ne l
