use Rattle.std.proofs.Common.{◌+◌, ◌-◌, ◌++◌, ℕ, List, arith, ap, sym, ◌∙◌}
use Rattle.commit_writer.specs.Lists.{marked, pages_by}
use Rattle.commit_writer.proofs.Lists.{page_passed, page_taken}
use Rattle.commit_writer.proofs.fill.list_pages.Goals as goal
use Rattle.commit_writer.proofs.fill.list_pages.Goals.{then-changed-from, else-changed-from}

pub loop-page-preserved : goal.loop-page-preserved
loop-page-preserved c =
    let turns = marked c.args.changed.now in
    let page = c.loop-page.page in
    let inv = c.loop-page.invariant in
    let rest : List ℕ = pages_by turns (page + 1) (c.args.count - (page + 1)) in
    elim c.if-changed-from.branch [
      | then-changed-from w ↦
          let e = w.push_reserved.ensures in
          rw w.pages-is (record {
            so_far = ap (λ (xs : List ℕ). xs ++ rest) e.items ∙ page_taken turns c.loop-page.pages.items (pages_by turns 0 c.args.count) page c.args.count c.loop-page-test.true (ap turns (sym c.from.ensures) ∙ w.if-changed-from.true) inv.so_far;
            few = omega (arith, e.len, inv.few);
            room = e.capacity ∙ inv.room;
          })
      | else-changed-from w ↦
          rw w.pages-is (record {
            so_far = page_passed turns c.loop-page.pages.items (pages_by turns 0 c.args.count) page c.args.count c.loop-page-test.true (ap turns (sym c.from.ensures) ∙ w.if-changed-from.false) inv.so_far;
            few = omega (arith, inv.few);
            room = inv.room;
          })
    ]
