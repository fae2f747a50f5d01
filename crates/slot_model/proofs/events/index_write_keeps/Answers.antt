use Rattle.slot_model.proofs.Arms.{late_write, turn_stands}
use Rattle.std.proofs.Common.{ap, refl, subst, suc}
use Rattle.kernel_model.specs.Cores.{Committing}
use Rattle.slot_model.specs.Slots.{Image}
use Rattle.slot_model.specs.Store.{after_write}
use Rattle.slot_model.specs.Moments.{StandsIn, stepped}
use Rattle.slot_model.proofs.events.index_write_keeps.Goals as goal

pub returns : goal.returns
returns g c = λ m n left i h on at l. subst (λ (x : Image). StandsIn (record (stepped m n) { image = x })) (ap (λ t. after_write m.kept.plan t m.image) (late_write m.world.sizes m.world.base m.state.history i (suc left) l)) (turn_stands m.world m.floor m.state m.kept m.image n (Committing i (suc left)) (Committing i left) h.lawful h.stands on at refl)
