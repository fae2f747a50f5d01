use Rattle.std.proofs.Common.{◌++◌, List, arith, ap, sym, ◌∙◌}
use Rattle.nv_base.specs.declared.ids.ObjId.{ObjId}
use Rattle.commit_writer.proofs.Lists.{object_passed, object_taken}
use Rattle.commit_writer.proofs.fill.list_objects.Goals as goal
use Rattle.commit_writer.proofs.fill.list_objects.Goals.{then-has, else-has}

pub loop-o-preserved : goal.loop-o-preserved
loop-o-preserved c =
    let inv = c.loop-o.invariant in
    elim c.if-has.branch [
      | then-has w ↦
          let e = w.push_reserved.ensures in
          rw w.objects-is (record {
            so_far = ap (λ (xs : List ObjId). xs ++ _) e.items ∙ object_taken _ c.loop-o.objects.items _ c.loop-o.o c.args.count c.loop-o-test.true (sym c.has.ensures.among ∙ w.if-has.true) inv.so_far;
            few = omega (arith, e.len, inv.few);
            room = e.capacity ∙ inv.room;
          })
      | else-has w ↦
          rw w.objects-is (record {
            so_far = object_passed _ c.loop-o.objects.items _ c.loop-o.o c.args.count c.loop-o-test.true (sym c.has.ensures.among ∙ w.if-has.false) inv.so_far;
            few = omega (arith, inv.few);
            room = inv.room;
          })
    ]
