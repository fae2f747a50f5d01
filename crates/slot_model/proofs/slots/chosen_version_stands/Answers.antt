use Rattle.slot_model.proofs.SlotLaws.{chosen_stands}
use Rattle.slot_model.proofs.slots.chosen_version_stands.Goals as goal

pub returns : goal.returns
returns g c = λ m n o i v h at ne l e. chosen_stands m.world.sizes m.world.base m.floor m.state.history m.state.cores m.kept m.image h.lawful.sound.history.numbered h.stands.stands n o i v at ne l e
