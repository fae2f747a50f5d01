use Rattle.slot_model.proofs.Views.{others_needed_at}
use Rattle.slot_model.proofs.verdicts.needed_by_tables.Goals as goal

pub returns : goal.returns
returns g c = λ m n o h l. others_needed_at m.world.sizes m.world.base m.floor m.state.history m.state.cores m.kept m.image h.lawful.sound.history.numbered h.stands.stands n o l
