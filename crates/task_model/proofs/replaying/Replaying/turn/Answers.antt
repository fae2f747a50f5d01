use Rattle.std.proofs.Common.{◌≤◌, ◌<◌, ◌+◌, sym, ap, ◌∙◌, subst, set, length}
use Rattle.set_model.specs.Views.{entry_of}
use Rattle.task_model.specs.Tables.{AreFit, tables_seen}
use Rattle.task_model.proofs.ReplayTurns.{at_some, ends_here, goes_on, takes_none, takes_some}
use Rattle.task_model.proofs.replaying.Replaying.turn.Goals as goal

pub returns-in_default-clause-turn : goal.returns-in_default-clause-turn
returns-in_default-clause-turn c = λ entries done rest p reruns order place at has.
    let e = entry_of c.args.entry.now in
    ends_here c.replay_goes_on.ensures c.args.set.now done rest p reruns c.args.self.now e at has
    (takes_none c.args.set.now (tables_seen c.args.self.now.tables) (tables_seen c.turn.new.self) e c.in_ok-spawned.field-0 c.in_ok-spawned.ensures.turn c.in_default.not-Some)

pub returns-clause-turn : goal.returns-clause-turn
returns-clause-turn c = λ entries done rest p reruns order place at has.
    let e = entry_of c.args.entry.now in
    let n = c.in-Some.spawned in
    goes_on c.replay_goes_on.ensures c.next_place_is_new.ensures c.args.set.now entries done rest p reruns c.args.self.now
    (record { tables = c.turn.new.self; machine = c.turn.new.machine; spawned = c.set.new.self; next = c.args.self.now.next + c.from.result }) e n order at has
    (takes_some c.args.set.now (tables_seen c.args.self.now.tables) (tables_seen c.turn.new.self) e c.in_ok-spawned.field-0 n c.in_ok-spawned.ensures.turn c.in-Some.is) (subst (λ k. k < length c.args.self.now.spawned) (sym place) c.requires.inside)
    (c.set.ensures ∙ ap (λ k. set c.args.self.now.spawned k n) (sym place)) (ap (λ k. c.args.self.now.next + k) c.from.ensures) (at_some (λ k. k ≤ 8) c.in_ok-spawned.field-0 n c.in_ok-spawned.ensures.few c.in-Some.is) (at_some (λ k. AreFit c.args.set.now (tables_seen c.turn.new.self)) c.in_ok-spawned.field-0 n c.in_ok-spawned.ensures.fit c.in-Some.is) c.in_ok-spawned.ensures.memory
