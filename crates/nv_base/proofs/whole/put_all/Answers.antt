use Rattle.std.proofs.Common.{arith}
use Rattle.std.proofs.lemmas.Grind.{common_steps}
use Rattle.nv_base.proofs.Puts.{put_rest}
use Rattle.nv_base.proofs.whole.put_all.Goals as goal

pub loop-at-preserved : goal.loop-at-preserved
loop-at-preserved g c = record {
  within = grind (arith, common_steps);
  puts = put_rest _ _ _ _ _ _ c.loop-at.invariant.within c.in-Ok.ensures.within c.loop-at.invariant.puts c.in-Ok.ensures.put;
}
