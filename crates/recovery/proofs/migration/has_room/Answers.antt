use Rattle.std.proofs.Common.{arith, refl}
use Rattle.set_model.specs.Sets.{TaskSet}
use Rattle.device_model.specs.Devices.{migrated}
use Rattle.recovery.proofs.migration.has_room.Goals as goal

pub returns-then-len-need-clause-small : goal.returns-then-len-need-clause-small
returns-then-len-need-clause-small c =
    let set : TaskSet = c.args.set.now in
    let need = c.need-need.ensures (migrated set) c.of_kind.ensures in
    λ words old new kind. (kind, need, refl, omega (arith, need, c.if-len-need.true))

pub returns-clause-room : goal.returns-clause-room
returns-clause-room c =
    let set : TaskSet = c.args.set.now in
    omega (arith, c.need-need.ensures (migrated set) c.of_kind.ensures, c.if-len-need.false)
