use Rattle.std.proofs.Common.{sym, ap, ◌∙◌, length, map}
use Rattle.std.proofs.lemmas.List.{length-map}
use Rattle.std.specs.Option.{option_map}
use Rattle.kernel_model.specs.Replay.{with_children}
use Rattle.kernel_model.specs.EntryReplay.{item_with}
use Rattle.set_model.specs.Views.{entry_of, outcome_of, spawn_of}
use Rattle.task_model.specs.Finals.{runs_of}
use Rattle.task_model.specs.Tables.{open_under, tables_seen}
use Rattle.task_model.proofs.FitStates.{runs_fit}
use Rattle.task_model.proofs.TableTurns.{has_item, same_programs, still_of_set, tables_after}
use Rattle.task_model.proofs.tables.Tables.turn.Goals as goal

pub returns-clause-turn : goal.returns-clause-turn
returns-clause-turn c =
    let old = tables_seen c.args.self.now in
    let e = entry_of c.args.entry.now in
    let task = c.in-Some.task in
    let run = runs_of c.args.set.now task.program.0 task.arg c.args.self.now.objects in
    let whole = c.in_ok-whole.ensures.exact in
    let spawns = c.in_ok-whole.whole.spawns in
    let mid = open_under c.take.new.self in (
      item_with e run,
      has_item (runs_of c.args.set.now) old e (spawn_of task) (outcome_of c.in_ok-whole.whole.outcome) (sym c.take.ensures.taken ∙ ap (option_map spawn_of) c.in-Some.is) whole.outcome (sym c.is_same_outcome.ensures ∙ c.if-not-is_same_outcome.false),
      tables_after old (tables_seen (record { objects = c.in_ok-whole.whole.values; «open» = c.join.new.self })) mid (item_with e run) (map spawn_of spawns) whole.values whole.spawns c.take.ensures.others
          (λ q. c.in_ok-join.ensures q ∙ ap (λ xs. with_children e.first (map spawn_of xs) mid q) c.as_slice.ensures.exact),
      c.len-spawned.ensures.exact ∙ sym (length-map spawns spawn_of) ∙ ap length whole.spawns,
    )

pub returns-clause-fit : goal.returns-clause-fit
returns-clause-fit c =
    let old = tables_seen c.args.self.now in
    let e = entry_of c.args.entry.now in
    let task = c.in-Some.task in
    let whole = c.in_ok-whole.ensures.exact in
    let spawns = c.in_ok-whole.whole.spawns in
    let mid = open_under c.take.new.self in
    let run = runs_fit c.run_is_fit.ensures c.args.set.now (c.tasks_are_a_machine.ensures c.args.set.now) task.program.0 task.arg c.args.self.now.objects c.requires.fit.shape in
    record {
      shape = c.in_ok-whole.ensures.shape;
      programs =
          still_of_set c.args.set.now (open_under c.join.new.self) mid old.tasks e.task e.first (map spawn_of spawns) c.requires.fit.programs (same_programs c.args.set.now (map spawn_of spawns) _ whole.spawns run.programs) c.take.ensures.others
          (λ q. c.in_ok-join.ensures q ∙ ap (λ xs. with_children e.first (map spawn_of xs) mid q) c.as_slice.ensures.exact);
    }
