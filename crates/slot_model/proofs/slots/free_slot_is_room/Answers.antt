use Rattle.slot_model.proofs.EventLaws.{ended_of}
use Rattle.slot_model.proofs.TableVerdicts.{room_at}
use Rattle.slot_model.proofs.slots.free_slot_is_room.Goals as goal

pub returns : goal.returns
returns g c = λ m n o h l. room_at m.world.sizes m.world.base m.floor m.state.history m.state.cores m.kept m.image h.lawful.sound.history.numbered (ended_of m.world m.state h.lawful.sound) h.stands.stands n o l
