use Rattle.slot_model.proofs.LiveCores.{history_ended}
use Rattle.slot_model.proofs.TableVerdicts.{room_at}
use Rattle.kernel_model.specs.Live.{cores_of}
use Rattle.slot_model.proofs.calls.caller_free_slot_is_room.Goals as goal

pub returns : goal.returns
returns c = λ m n o h l. room_at m.sizes m.base m.base.clock m.state.history (cores_of m.state.marks) m.kept m.image h.lawful.live.history.numbered (history_ended m.whole m.base m.state.history h.lawful.live.history) h.stands n o l
