use Rattle.std.proofs.Common.{◌+◌, length, map, false, true, sym, ap, ap₂, ◌∙◌, subst}
use Rattle.interval.specs.Ranges.{range_of}
use Rattle.kernel_model.specs.Items.{Entry}
use Rattle.kernel_model.specs.Verdicts.{Records}
use Rattle.slot_model.specs.Tabled.{table_finish}
use Rattle.set_model.specs.Views.{entry_of, outcome_of}
use Rattle.shadow_index.specs.declared.plan.Plan.{Plan}
use Rattle.task_queue.specs.Queues.{has_room}
use Rattle.vol_copy.specs.Tries.{run_in}
use Rattle.validate.specs.Answers.{Seen, tables_in}
use Rattle.validate.specs.Plans.{HaveSlots, IsFull}
use Rattle.validate.specs.Views.{view_of}
use Rattle.validate.proofs.Decided.{IsAsked, answered_empty, answered_room, answered_slots, are_written, granted_plan, objects_written, writes_by}
use Rattle.validate.proofs.Frees.{views_moved}
use Rattle.validate.proofs.Pins.{views_are}
use Rattle.validate.proofs.verdict.validate.Goals as goal

pub returns-in_default : goal.returns-in_default
returns-in_default c = λ o t sizes ready ended reads sizes_are.
    let seen : Seen = record { chains = c.args.versions.now; queue = c.args.queue.now; clock = c.args.clock.0; number = c.args.number.0; others = map view_of c.args.others.now } in
    let a = c.args.attempt.now in
    let raised = c.raised-interval.ensures (writes_by a) (objects_written a.written a.words ∙ sym c.written-written.ensures) in
    let asked : IsAsked seen sizes a (range_of c.args.reads) (range_of c.raised-interval.result) o t = record { sizes_are = sizes_are; ended = ended; reads_are = reads; raised = raised } in
    answered_empty seen sizes a (range_of c.args.reads) (range_of c.raised-interval.result) o t c.end_of.result.0 asked c.in_default.ensures c.end_of.ensures

pub returns-in-Err : goal.returns-in-Err
returns-in-Err c = λ o t sizes ready ended reads sizes_are.
    let seen : Seen = record { chains = c.args.versions.now; queue = c.args.queue.now; clock = c.args.clock.0; number = c.args.number.0; others = map view_of c.args.others.now } in
    let a = c.args.attempt.now in
    let raised = c.raised-interval.ensures (writes_by a) (objects_written a.written a.words ∙ sym c.written-written.ensures) in
    let asked : IsAsked seen sizes a (range_of c.args.reads) (range_of c.raised-interval.result) o t = record { sizes_are = sizes_are; ended = ended; reads_are = reads; raised = raised } in
    let views = views_moved seen.others _ _ _ _ (views_are c.args.others.now) c.of.ensures.intervals c.of.ensures.pins in
    let full = subst (λ os. IsFull seen.chains seen.others os c.in-Err.object.0) c.written-written.ensures (c.in-Err.ensures seen.others views) in
    answered_slots seen sizes a (range_of c.args.reads) (range_of c.raised-interval.result) o t c.in-Err.object.0 asked (are_written seen c.requires.one_set.0 a c.requires.one_set.1) c.in-Some.ensures.0 full

pub returns-then-not-room_for : goal.returns-then-not-room_for
returns-then-not-room_for c = λ o t sizes ready ended reads sizes_are.
    let seen : Seen = record { chains = c.args.versions.now; queue = c.args.queue.now; clock = c.args.clock.0; number = c.args.number.0; others = map view_of c.args.others.now } in
    let a = c.args.attempt.now in
    let i = range_of c.raised-interval.result in
    let raised = c.raised-interval.ensures (writes_by a) (objects_written a.written a.words ∙ sym c.written-written.ensures) in
    let asked : IsAsked seen sizes a (range_of c.args.reads) i o t = record { sizes_are = sizes_are; ended = ended; reads_are = reads; raised = raised } in
    let written = are_written seen c.requires.one_set.0 a c.requires.one_set.1 in
    let views = views_moved seen.others _ _ _ _ (views_are c.args.others.now) c.of.ensures.intervals c.of.ensures.pins in
    let have = subst (λ os. HaveSlots seen.chains seen.others os c.in-Ok.slots) c.written-written.ensures (c.in-Ok.ensures seen.others views) in
    let spawns = ap length c.spawns.ensures in
    let room = ap (λ n. has_room n seen.queue) (sym spawns) ∙ sym c.if-not-room_for.ensures in
    answered_room seen sizes a (range_of c.args.reads) i o t c.in-Ok.slots false asked written c.in-Some.ensures.0 have room
    ∙ ap₂ Records (sym (c.from.ensures ∙ c.pending.ensures)) (sym (c.from-then-not-room_for.ensures ∙ spawns))

pub returns : goal.returns
returns c = λ o t sizes ready ended reads sizes_are.
    let seen : Seen = record { chains = c.args.versions.now; queue = c.args.queue.now; clock = c.args.clock.0; number = c.args.number.0; others = map view_of c.args.others.now } in
    let a = c.args.attempt.now in
    let i = range_of c.raised-interval.result in
    let raised = c.raised-interval.ensures (writes_by a) (objects_written a.written a.words ∙ sym c.written-written.ensures) in
    let asked : IsAsked seen sizes a (range_of c.args.reads) i o t = record { sizes_are = sizes_are; ended = ended; reads_are = reads; raised = raised } in
    let written = are_written seen c.requires.one_set.0 a c.requires.one_set.1 in
    let views = views_moved seen.others _ _ _ _ (views_are c.args.others.now) c.of.ensures.intervals c.of.ensures.pins in
    let have = subst (λ os. HaveSlots seen.chains seen.others os c.in-Ok.slots) c.written-written.ensures (c.in-Ok.ensures seen.others views) in
    let spawns = ap length c.spawns.ensures in
    let room = ap (λ n. has_room n seen.queue) (sym spawns) ∙ sym c.if-not-room_for.ensures in
    let some = c.writes_some.ensures (writes_by a) (objects_written a.written a.words ∙ sym c.written-written.ensures) in
    let point = c.in-Some.ensures.1 (writes_by a) some in
    let plan : Plan = record { granted = c.entry.result; written = c.written-written.result; slots = c.in-Ok.slots } in
    let entry = ap entry_of (c.entry.ensures o ready) ∙ ap (λ p. let e : Entry = record { number = seen.number + 1; task = a.task.0; point = p; first = seen.queue.next; outcome = outcome_of o } in e) point in (
      table_finish (tables_in seen) a.task.0 (run_in a o) i,
      answered_room seen sizes a (range_of c.args.reads) i o t c.in-Ok.slots true asked written c.in-Some.ensures.0 have room,
      granted_plan seen sizes a i o plan sizes_are written c.written-written.ensures have entry,
    )
