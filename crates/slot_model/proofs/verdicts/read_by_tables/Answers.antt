use Rattle.slot_model.proofs.Reading.{read_at}
use Rattle.slot_model.proofs.verdicts.read_by_tables.Goals as goal

pub returns : goal.returns
returns g c = λ m t n o start reads v h p at ne l e. read_at m.world.sizes m.world.base m.floor m.state.history m.state.cores m.kept m.image h.lawful.sound.history.numbered h.stands.stands t p n o start reads v at ne l e
