use Rattle.std.proofs.Common.{◌≡◌, rules, map, ap, ◌∙◌, sym, subst}
use Rattle.std.specs.Map.Iter.{deref_pair}
use Rattle.std.proofs.lemmas.Map.Iter.{iter_end}
use Rattle.kernel_model.specs.Replay.{task_under}
use Rattle.kernel_model.specs.Serial.{InIdOrder}
use Rattle.task_model.specs.Tables.{listed}
use Rattle.task_model.proofs.OpenFacts.{listed_order, under_listed}
use Rattle.task_model.proofs.open_tasks.OpenTasks.list.Goals as goal

pub returns-clause-tasks : goal.returns-clause-tasks
returns-clause-tasks c = λ q.
    let e : map deref_pair c.loop-id.yielded ≡ c.args.self.now.tasks.entries = search (rules, iter_end) in
    ap (λ ts. task_under ts q) (c.loop-id.invariant ∙ ap (map listed) e) ∙ under_listed c.args.self.now.tasks.entries q

pub returns-clause-by_id : goal.returns-clause-by_id
returns-clause-by_id c =
    let e : map deref_pair c.loop-id.yielded ≡ c.args.self.now.tasks.entries = search (rules, iter_end) in
    subst InIdOrder (sym (c.loop-id.invariant ∙ ap (map listed) e)) (listed_order c.args.self.now.tasks.entries c.into_iter-id-iterator.ensures.into_iter_gives.5)
