use Rattle.std.proofs.Common.{◌∙◌, ◌++◌, List, length, map, ap, arith}
use Rattle.object_sets.specs.ObjectSets.{is_among}
use Rattle.kernel_model.specs.Replay.{TaskRec}
use Rattle.kernel_model.specs.OpenTasks.{children, others_than}
use Rattle.set_model.specs.Views.{spawn_of, task_of}
use Rattle.nv_base.specs.declared.lines.TaskRec as base_task
use Rattle.commit_writer.proofs.Finishing.{length-slots, length-tasks}
use Rattle.commit_writer.proofs.after.finish_into.Goals as goal

pub returns-clause-state : goal.returns-clause-state
returns-clause-state c =
    let task = c.args.plan.now.granted.task.0 in
    let first = c.args.plan.now.granted.first.0 in
    let others : List TaskRec = others_than task (map task_of c.args.before.now.tasks.items) in
    record {
      slots = ap length c.put_slots.ensures ∙ length-slots (λ o. is_among o c.args.plan.now.written) c.args.plan.now.slots 0 c.deref.result.now ∙ ap length c.deref.ensures.value ∙ c.requires.before.slots;
      tasks = omega (
        arith,
        length-tasks c.add_children.new.tasks.items others first c.args.spawns.now
            (c.add_children.ensures.added ∙ ap (λ (ts : List TaskRec). ts ++ children first (map spawn_of c.args.spawns.now)) (c.keep_others.ensures.kept ∙ ap (λ (ts : List base_task.TaskRec). others_than task (map task_of ts)) c.deref-2.ensures.value)),
        c.requires.records,
      );
    }

pub returns-clause-room : goal.returns-clause-room
returns-clause-room c = record {
  slots = ap length c.put_slots.ensures ∙ length-slots (λ o. is_among o c.args.plan.now.written) c.args.plan.now.slots 0 c.deref.result.now ∙ ap length c.deref.ensures.value ∙ c.requires.before.slots;
  records = omega (arith, c.add_children.ensures.room, c.keep_others.ensures.room, c.requires.room.records);
}
