use Rattle.std.proofs.Common.{◌+◌, ◌++◌, sym, ◌∙◌, ap, map, drop, arith}
use Rattle.schedule_model.specs.Limits.{step_count}
use Rattle.power_trace.specs.Items.{item_of}
use Rattle.power_trace.specs.Indexed.{starts_from}
use Rattle.power_trace.proofs.Totals.{total_more, starts_more, starts_all}
use Rattle.power_trace.proofs.index.starts_of.Goals as goal

pub loop-item-preserved : goal.loop-item-preserved
loop-item-preserved c =
    let l = c.loop-item in
    let items = c.args.items.now in
    let item = c.item-item.result in
    let later = map item_of (drop (l.item-index + 1) items) in
    record {
      total = omega (arith, l.invariant.total, total_more items l.item-index item c.loop-item-test.true c.item-item.is, c.step_count-start.ensures);
      left = ap (λ n. c.push.new.self.items ++ starts_from (l.start + n) later) c.step_count-start.ensures
          ∙ ap (λ xs. xs ++ starts_from (l.start + step_count (item_of item)) later) c.in_ok-push.ensures.items
          ∙ sym (starts_more l.starts.items l.start items l.item-index item c.loop-item-test.true c.item-item.is)
          ∙ l.invariant.left;
    }

pub returns : goal.returns
returns c =
    let l = c.loop-item in
    sym (starts_all l.starts.items l.start c.args.items.now l.item-index c.loop-item-test.false) ∙ l.invariant.left
