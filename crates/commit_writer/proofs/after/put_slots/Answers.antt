use Rattle.std.proofs.Common.{◌∙◌, ◌++◌, ◌∷◌, [], List, ℕ, ap, arith, take, cond, get_or, slice_index}
use Rattle.object_sets.specs.ObjectSets.{is_among}
use Rattle.commit_writer.specs.Afters.{planned_slots}
use Rattle.commit_writer.proofs.Finishing.{slot_added}
use Rattle.commit_writer.proofs.after.put_slots.Goals as goal

pub loop-o-preserved : goal.loop-o-preserved
loop-o-preserved c =
    let e = c.push_reserved.ensures in
    let inv = c.loop-o.invariant in
    let so_far : List ℕ = planned_slots c.args.plan.now (take c.loop-o.o c.args.before.now) in
    record {
      slots = e.items ∙ ap (λ (xs : List ℕ). xs ++ c.slot_after.result ∷ []) inv.slots ∙ ap (λ (n : ℕ). so_far ++ n ∷ []) c.slot_after.ensures
          ∙ ap (λ (k : ℕ). so_far ++ cond (is_among c.loop-o.o c.args.plan.now.written) (slice_index c.args.plan.now.slots c.loop-o.o) (get_or c.args.before.now k 0) ∷ []) c.from.ensures
          ∙ slot_added (λ k. is_among k c.args.plan.now.written) c.args.plan.now.slots c.args.before.now c.loop-o.o 0 (omega (arith, c.requires.before, c.loop-o-test.true));
      long = omega (arith, e.len, inv.long);
      room = e.capacity ∙ inv.room;
    }
