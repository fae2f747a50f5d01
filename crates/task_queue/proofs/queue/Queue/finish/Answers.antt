use Rattle.std.proofs.Common.{◌≡◌, ◌+◌, ◌-◌, ◌≤◌, ◌++◌, List, length, map, sym, ap, ◌∙◌, subst, arith}
use Rattle.std.proofs.lemmas.List.{length-map}
use Rattle.std.proofs.lemmas.Bool.{leb-true}
use Rattle.kernel_model.specs.Replay.{TaskRec}
use Rattle.kernel_model.specs.OpenTasks.{children, others_than}
use Rattle.set_model.specs.Views.{spawn_of, task_of}
use Rattle.task_queue.specs.Queues.{IsQueued, Queued, after_finish, queue_of}
use Rattle.task_queue.proofs.Finishes.{finished_queued, length-others, open_under}
use Rattle.task_queue.proofs.Lists.{others-map}
use Rattle.task_queue.proofs.queue.Queue.finish.Goals as goal

pub append-requires-clause-room : goal.append-requires-clause-room
append-requires-clause-room c =
    let q = c.args.self.now in
    let queued : IsQueued q = subst IsQueued c.self.view_is c.self.invariant.0 in
    let found = open_under q.tasks c.args.task.0 c.requires.open in
    let count = length c.args.spawns.now in
    let room : length q.tasks - 1 + count ≤ q.records = leb-true (length q.tasks - 1 + count) q.records (sym (c.if-not-room_for.ensures)) in
    let records : c.self.inside.records ≡ q.records = ap (λ (x : Queued). x.records) c.self.view_is in
    let tasks : map task_of c.self.inside.tasks.items ≡ q.tasks = ap (λ (x : Queued). x.tasks) c.self.view_is in
    let kept : map task_of c.keep_others.new.tasks.items ≡ others_than c.args.task.0 q.tasks =
    ap (map task_of) c.keep_others.ensures.kept ∙ others-map c.args.task.0 c.self.inside.tasks.items ∙ ap (others_than c.args.task.0) tasks in
    omega (arith, room, records, ap length kept, length-map c.keep_others.new.tasks.items task_of, length-others q c.args.task.0 found.0 queued found.1, c.keep_others.ensures.room, c.self.invariant.1)

pub returns-clause-finished : goal.returns-clause-finished
returns-clause-finished c =
    let q = c.args.self.now in
    let tasks : map task_of c.self.inside.tasks.items ≡ q.tasks = ap (λ (x : Queued). x.tasks) c.self.view_is in
    let next : c.self.inside.next.0 ≡ q.next = ap (λ (x : Queued). x.next) c.self.view_is in
    let records : c.self.inside.records ≡ q.records = ap (λ (x : Queued). x.records) c.self.view_is in
    let spawns = map spawn_of c.args.spawns.now in
    let kept : map task_of c.keep_others.new.tasks.items ≡ others_than c.args.task.0 q.tasks =
    ap (map task_of) c.keep_others.ensures.kept ∙ others-map c.args.task.0 c.self.inside.tasks.items ∙ ap (others_than c.args.task.0) tasks in
    let all : map task_of c.append.new.tasks.items ≡ others_than c.args.task.0 q.tasks ++ children q.next spawns =
    c.append.ensures.added ∙ ap (λ ts. ts ++ children c.self.inside.next.0 spawns) kept ∙ ap (λ n. others_than c.args.task.0 q.tasks ++ children n spawns) next in
    let count : c.self.inside.next.0 + length c.args.spawns.now ≡ q.next + length spawns = omega (arith, next, length-map c.args.spawns.now spawn_of) in
    let queue : List TaskRec → _ → _ → Queued = λ ts n r. record { tasks = ts; next = n; records = r } in
    ap (λ ts. queue ts (c.self.inside.next.0 + length c.args.spawns.now) c.self.inside.records) all
    ∙ ap (λ n. queue (others_than c.args.task.0 q.tasks ++ children q.next spawns) n c.self.inside.records) count
    ∙ ap (λ r. queue (others_than c.args.task.0 q.tasks ++ children q.next spawns) (q.next + length spawns) r) records

pub invariant_of-self : goal.invariant_of-self
invariant_of-self c =
    let q = c.args.self.now in
    let queued : IsQueued q = subst IsQueued c.self.view_is c.self.invariant.0 in
    let found = open_under q.tasks c.args.task.0 c.requires.open in
    let count = length c.args.spawns.now in
    let spawns = map spawn_of c.args.spawns.now in
    let same : length spawns ≡ count = length-map c.args.spawns.now spawn_of in
    let room : length q.tasks - 1 + count ≤ q.records = leb-true (length q.tasks - 1 + count) q.records (sym (c.if-not-room_for.ensures)) in
    let whole : IsQueued (after_finish c.args.task.0 spawns q) = finished_queued q c.args.task.0 spawns found.0 queued found.1 (omega (arith, room, same)) in
    (subst IsQueued (sym (returns-clause-finished c)) whole, omega (arith, c.append.ensures.room, c.keep_others.ensures.room, c.self.invariant.1))
