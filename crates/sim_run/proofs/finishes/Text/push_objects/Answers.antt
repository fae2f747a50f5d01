use Rattle.std.proofs.Common.{arith, ℕ, ◌<◌, List, ◌++◌, length, ap, ◌∙◌}
use Rattle.set_model.specs.Sets.{object_at}
use Rattle.report_text.specs.Lines.{object_text}
use Rattle.sim_run.proofs.FinishLines.{object_more}
use Rattle.sim_run.proofs.finishes.Text.push_objects.Goals as goal

pub loop-object-preserved : goal.loop-object-preserved
loop-object-preserved c =
    let set = c.args.set.now in
    let less : c.loop-object.object < length set.objects = omega (arith, c.loop-object-test.true, c.objects-object-end.ensures.exact) in
    object_more set.objects c.args.objects.now _ c.loop-object.object c.args.self.now.bytes.items c.loop-object.self.bytes.items c.push.new.self.bytes.items less c.requires.number c.loop-object.invariant
    (c.in_ok-push.ensures ∙ ap (λ (x : List ℕ). c.loop-object.self.bytes.items ++ x) (c.put_object.ensures ∙ ap (object_text (object_at set c.loop-object.object).name) c.get.ensures.exact))
