use Rattle.slot_model.proofs.SlotLaws.{copied_stands}
use Rattle.slot_model.proofs.slots.copied_version_stands.Goals as goal

pub returns : goal.returns
returns g c = λ m n copied a r reads h at e l. copied_stands m.world.sizes m.world.base m.floor m.state.history m.state.cores m.kept m.image h.lawful.sound.history.numbered h.stands.stands n a copied r reads at e l
