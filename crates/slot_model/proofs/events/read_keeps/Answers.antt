use Rattle.slot_model.proofs.Arms.{turn_stands}
use Rattle.std.proofs.Common.{ap, subst}
use Rattle.kernel_model.specs.Cores.{Copying, Running}
use Rattle.slot_model.specs.Kept.{Kept}
use Rattle.slot_model.specs.Changes.{pinned}
use Rattle.slot_model.specs.Moments.{StandsIn, stepped}
use Rattle.slot_model.proofs.events.read_keeps.Goals as goal

pub returns : goal.returns
returns g c = λ m n copied a b r h on at turn e. subst (λ (k : Kept). StandsIn (record (stepped m n) { kept = k })) (ap (λ rs. pinned m.world.base m.state.history n a rs m.kept) e) (turn_stands m.world m.floor m.state m.kept m.image n (Running a) (Copying b copied) h.lawful h.stands on at turn)
