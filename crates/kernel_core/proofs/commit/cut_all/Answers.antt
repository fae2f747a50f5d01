use Rattle.std.proofs.Common.{◌<◌, length, arith}
use Rattle.kernel_core.proofs.Cutting.{cut_more}
use Rattle.kernel_core.proofs.commit.cut_all.Goals as goal

pub loop-n-preserved : goal.loop-n-preserved
loop-n-preserved c =
    let now = c.loop-n.invariant in
    let inside : c.loop-n.n < length c.loop-n.seats.items = let a = c.loop-n-test.true in let b = c.len-n-end.ensures in let d = c.args.seats.now.ok.0 in let e = now.number in omega (arith, a, b, d, e) in
    cut_more c.args.point.0 c.args.written c.loop-n.n c.args.seats.now.items c.loop-n.seats.items c.index_mut.result.now c.cut.new.self now inside c.index_mut.ensures.value (record { attempt = c.cut.ensures.attempt; cuts = c.cut.ensures.cuts })
