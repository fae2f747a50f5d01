use Rattle.std.proofs.Common.{ℕ, List, sym, ◌∙◌, subst, arith}
use Rattle.committed_state.specs.Joining.{AreTouchedBy}
use Rattle.committed_state.proofs.Joined.{count_versions, joined}
use Rattle.committed_state.proofs.Tables.{Touches, all_touched_by}
use Rattle.committed_state.proofs.committed.Committed.join.Goals as goal

pub returns-clause-committed : goal.returns-clause-committed
returns-clause-committed c =
    joined c.args.set.now c.args.finish.now c.args.spawns.now c.args.self.now c.deref.result.now c.objects.result c.touch_all.new.versions c.finish.new.self c.args.root c.swap.new.x c.swap.new.y
    c.requires.committed c.requires.may c.objects.ensures.exact c.touch_all.ensures c.in-Ok.ensures.finished c.swap.ensures.x_after c.swap.ensures.y_after

pub returns-clause-chains : goal.returns-clause-chains
returns-clause-chains c = λ i f.
    let set = c.args.set.now in
    let old = c.args.self.now in
    let slots = old.after.slots.items in
    let law : Touches i = record { writes = λ o k words d h. c.finish_touches_object.ensures.writes i o k words d h; reads = λ o k d h. c.finish_touches_object.ensures.reads i o k d h; neither = λ o k d h. c.finish_touches_object.ensures.neither i o k d h } in
    let touched = subst (λ (xs : List ℕ). AreTouchedBy c.args.finish.now xs c.objects.result old.versions c.touch_all.new.versions) c.deref.ensures.value c.touch_all.ensures in
    let count = count_versions set old.versions c.requires.committed.rooms.slots ∙ sym c.objects.ensures.exact in
    sym (c.finish_touches_table.ensures i slots old.versions c.touch_all.new.versions
    (all_touched_by i c.args.finish.now slots c.objects.result old.versions c.touch_all.new.versions law f count (λ o l. c.requires.may.free o (omega (arith, l, c.objects.ensures.exact))) touched))
