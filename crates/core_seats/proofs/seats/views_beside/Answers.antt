use Rattle.std.proofs.Common.{None, cond, nat_eq, ap, ◌∙◌, arith}
use Rattle.core_seats.specs.Others.{view_in}
use Rattle.core_seats.proofs.Beside.{one_view}
use Rattle.core_seats.proofs.seats.views_beside.Goals as goal

pub loop-k-preserved : goal.loop-k-preserved
loop-k-preserved c = record {
  listed = one_view c.args.seats.now c.loop-k.k c.args.core c.index-seats-k.result _ _ c.view_unless.result (omega arith) c.loop-k.invariant.listed (c.view_unless.ensures ∙ ap (λ s. cond (nat_eq c.loop-k.k c.args.core) None (view_in s)) c.index-seats-k.is) c.add_view-count.ensures.put;
  few = omega (arith, c.loop-k.invariant.few, c.add_view-count.ensures.few);
  long = c.type_inv.views;
}
