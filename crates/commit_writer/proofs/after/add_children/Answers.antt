use Rattle.std.proofs.Common.{◌∙◌, map, ap, arith}
use Rattle.std.proofs.lemmas.List.{map-append}
use Rattle.set_model.specs.Views.{task_of}
use Rattle.commit_writer.proofs.Finishing.{child_added}
use Rattle.commit_writer.proofs.after.add_children.Goals as goal

pub loop-spawn-preserved : goal.loop-spawn-preserved
loop-spawn-preserved c =
    let e = c.push_reserved.ensures in
    let inv = c.loop-spawn.invariant in
    record {
      tasks = ap (map task_of) e.items ∙ map-append task_of c.loop-spawn.tasks.items _
          ∙ child_added (map task_of c.args.tasks.now.items) (map task_of c.loop-spawn.tasks.items) c.args.first.0 c.loop-spawn.id c.loop-spawn.spawn-index c.args.spawns.now _ (omega arith) inv.tasks inv.id;
      id = omega (arith, inv.id);
      long = omega (arith, e.len, inv.long);
      room = e.capacity ∙ inv.room;
    }
