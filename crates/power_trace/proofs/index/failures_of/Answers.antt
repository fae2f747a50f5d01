use Rattle.std.proofs.Common.{refl, sym, ◌∙◌, ap, ◌++◌, ◌+◌, ◌-◌, drop, arith, get_or}
use Rattle.power_trace.specs.Indexed.{failures_from}
use Rattle.power_trace.proofs.FailurePlaces.{failures_more, failures_stop, failures_all}
use Rattle.power_trace.proofs.index.failures_of.Goals as goal

pub returns-then-time-left : goal.returns-then-time-left
returns-then-time-left c =
    let l = c.loop-time in
    sym (failures_stop l.failures.items c.args.on.now l.at l.left l.time-index (get_or c.args.on.now l.time-index 0) c.loop-time-test.true refl c.if-time-left.true)
    ∙ l.invariant.left

pub loop-time-preserved : goal.loop-time-preserved
loop-time-preserved c =
    let l = c.loop-time in
    let time = get_or c.args.on.now l.time-index 0 in
    record {
      total = omega (arith, l.invariant.total, c.if-time-left.false);
      left = ap (λ xs. xs ++ failures_from (l.at + time + 1) (l.left - time) (drop (l.time-index + 1) c.args.on.now)) c.in_ok-push.ensures.items
          ∙ sym (failures_more l.failures.items c.args.on.now l.at l.left l.time-index time c.loop-time-test.true refl c.if-time-left.false)
          ∙ l.invariant.left;
    }

pub returns : goal.returns
returns c =
    let l = c.loop-time in
    sym (failures_all l.failures.items c.args.on.now l.at l.left l.time-index c.loop-time-test.false) ∙ l.invariant.left
