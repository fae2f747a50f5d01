use Rattle.std.proofs.Common.{arith}
use Rattle.device_model.specs.Devices.{Device}
use Rattle.recovery.specs.Images.{device_at, words_of}
use Rattle.recovery.proofs.KindLaws.{need_some}
use Rattle.kernel_core.proofs.tests.may_turn.Goals as goal

pub read-requires : goal.read-requires
read-requires g c =
    let d : Device = device_at c.args.kernel.now.set (words_of (g.F.Fram.log c.args.dev.now) (g.F.Fram.start c.args.dev.now)) in
    let need = c.need.ensures d c.requires.2.keeps.layout in
    omega (arith, need, need_some d.kind d.set, c.len-2.ensures, c.if-len-need.false)
