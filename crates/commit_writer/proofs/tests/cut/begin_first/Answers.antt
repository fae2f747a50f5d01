use Rattle.std.proofs.Common.{◌≡◌, ◌<◌, length, map, ap, arith}
use Rattle.std.proofs.lemmas.List.{length-map}
use Rattle.set_model.specs.Sets.{object_at}
use Rattle.set_model.specs.Views.{task_of}
use Rattle.device_model.specs.Formats.{formatted_held}
use Rattle.shadow_index.specs.Tells.{device_of}
use Rattle.commit_writer.specs.Rooms.{course_of, layout_by}
use Rattle.commit_writer.proofs.FirstCommit.{few_others, first_commit, first_told, is_first, one_word}
use Rattle.commit_writer.proofs.tests.cut.begin_first.Goals as goal

pub finish_into-requires-clause-records : goal.finish_into-requires-clause-records
finish_into-requires-clause-records c =
    let tasks = map task_of c.args.before.now.tasks.items in
    omega (arith, few_others c.first_plan-plan.result.granted.task.0 tasks, length-map c.args.before.now.tasks.items task_of, c.requires.state.tasks)

pub returns : goal.returns
returns c = λ yes.
    let set = c.args.set.now in
    let plan = c.first_plan-plan.result in
    let before = c.args.before.now in
    let word = c.args.copies.now.word in
    let size : (object_at set 0).size ≡ 1 = omega (arith, c.size.ensures.exact, c.if-size-ne1.false) in
    let some : 0 < length set.tasks = omega (arith, c.tasks.ensures.number, c.if-tasks-eq0.false) in
    let held = formatted_held (layout_by set 0) set in
    let commit = first_commit set plan word before.next.0 in
    let told = first_told set plan before c.finish_into.new.after word c.requires.set.limits c.requires.index c.requires.root c.requires.shift
    c.first_plan-plan.ensures.entry c.first_plan-plan.ensures.written c.first_plan-plan.ensures.slot size some c.finish_into.ensures.index in
    (course_of set before.shift held commit, ap (device_of set) c.requires.shift, c.begin.ensures.begun held commit is_first (one_word word) told)
