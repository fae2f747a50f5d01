use Rattle.std.proofs.Common.{◌≡◌, ◌+◌, length, map, take, ap, ◌∙◌, arith, length-append}
use Rattle.std.proofs.lemmas.List.{length-map, length-take-le, map-append}
use Rattle.kernel_model.specs.OpenTasks.{children}
use Rattle.kernel_model.proofs.ForCallers.{length-children}
use Rattle.set_model.specs.Views.{spawn_of, task_of}
use Rattle.task_queue.proofs.Lists.{add_one_more}
use Rattle.task_queue.proofs.queue.append.Goals as goal

pub push_reserved-requires : goal.push_reserved-requires
push_reserved-requires c =
    let i = c.loop-spawn.spawn-index in
    let old = c.args.tasks.now.items in
    let made = map spawn_of (take i c.args.spawns.now) in
    let now : length (map task_of c.loop-spawn.tasks.items) ≡ length (map task_of old) + i =
    ap length c.loop-spawn.invariant.added ∙ length-append (map task_of old) (children c.args.first made)
    ∙ ap (λ n. length (map task_of old) + n) (length-children c.args.first made ∙ length-map (take i c.args.spawns.now) spawn_of ∙ length-take-le i c.args.spawns.now (omega arith)) in
    omega (arith, now, length-map c.loop-spawn.tasks.items task_of, length-map old task_of, c.requires.room, c.loop-spawn.invariant.room)

pub loop-spawn-preserved : goal.loop-spawn-preserved
loop-spawn-preserved c = record {
  added = add_one_more (map task_of c.args.tasks.now.items) (map task_of c.loop-spawn.tasks.items) (map task_of c.push_reserved.new.self.items) c.args.first c.loop-spawn.id c.loop-spawn.spawn-index c.args.spawns.now _ (omega arith) c.loop-spawn.invariant.added c.loop-spawn.invariant.id (ap (map task_of) c.push_reserved.ensures.items ∙ map-append task_of c.loop-spawn.tasks.items _);
  id = omega (arith, c.loop-spawn.invariant.id);
  room = omega (arith, c.loop-spawn.invariant.room, c.push_reserved.ensures);
}
