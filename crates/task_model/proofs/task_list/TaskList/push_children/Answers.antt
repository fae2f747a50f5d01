use Rattle.std.proofs.Common.{◌∙◌, ap, map, arith}
use Rattle.std.proofs.lemmas.List.{map-append}
use Rattle.set_model.specs.Views.{task_of}
use Rattle.task_model.proofs.TaskLists.{child_added}
use Rattle.task_model.proofs.task_list.TaskList.push_children.Goals as goal

pub loop-spawn-preserved : goal.loop-spawn-preserved
loop-spawn-preserved c = record {
  added = child_added (map task_of c.args.self.now) (map task_of c.loop-spawn.self) (map task_of c.push.new.self) c.args.first.0 c.loop-spawn.id c.loop-spawn.spawn-index c.args.spawns.now _ (omega arith) c.loop-spawn.invariant.added c.loop-spawn.invariant.id (ap (map task_of) c.in_ok-push.ensures ∙ map-append task_of c.loop-spawn.self _);
  id = omega (arith, c.loop-spawn.invariant.id);
}
