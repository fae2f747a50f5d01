use Rattle.slot_model.proofs.Views.{free_at}
use Rattle.std.proofs.Common.{ap, ◌∙◌}
use Rattle.slot_model.specs.Tabled.{free_place}
use Rattle.slot_model.specs.Moments.{views_in}
use Rattle.slot_model.proofs.verdicts.free_slot_by_tables.Goals as goal

pub returns : goal.returns
returns g c = λ m t n o h p l. ap (λ ps. free_place (m.world.sizes.slots o) o (views_in m n) ps) (p.places o l) ∙ free_at m.world.sizes m.world.base m.floor m.state.history m.state.cores m.kept m.image h.lawful.sound.history.numbered h.stands.stands n o l
