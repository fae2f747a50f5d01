use Rattle.std.proofs.Common.{arith}
use Rattle.shadow_index.specs.Tells.{device_by}
use Rattle.shadow_index.proofs.tests.index_at.Goals as goal

pub index_at-requires : goal.index_at-requires
index_at-requires c =
    let d = device_by c.args.set.now c.args.kind in
    (d, c.of_kind-layout.ensures, omega (arith, c.index_reads.ensures d c.of_kind-layout.ensures))
