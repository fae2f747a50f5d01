use Rattle.std.proofs.Common.{arith, ap, sym, ◌∙◌}
use Rattle.std.proofs.lemmas.Bool.{leb-false, leb-true}
use Rattle.task_model.specs.TaskSteps.{given_index}
use Rattle.vol_copy.proofs.StepTurns.{next_is, spawns_task, spawns_too_many, traps_spawn}
use Rattle.vol_copy.proofs.attempt.Attempt.spawn_task.Goals as goal

pub returns-then-program-from-clause-serves : goal.returns-then-program-from-clause-serves
returns-then-program-from-clause-serves c =
    traps_spawn c.args.set.now c.args.self.now c.end.new.self c.end.result c.args.program c.args.arg (omega (arith, c.if-program-from.true, c.from.ensures, c.programs.ensures.exact)) c.end.ensures.exact c.end.ensures.answer

pub returns-then-has_spawned_all-clause-serves : goal.returns-then-has_spawned_all-clause-serves
returns-then-has_spawned_all-clause-serves c =
    spawns_too_many c.args.set.now c.args.self.now c.end-then-has_spawned_all.new.self c.end-then-has_spawned_all.result c.args.program c.args.arg (omega (arith, c.if-program-from.false, c.from.ensures, c.programs.ensures.exact))
    (leb-true _ _ (sym c.if-has_spawned_all.ensures)) c.end-then-has_spawned_all.ensures.exact c.end-then-has_spawned_all.ensures.answer

pub returns-clause-serves : goal.returns-clause-serves
returns-clause-serves c =
    spawns_task c.args.set.now c.args.self.now c.resume.new.self (record { program = record { 0 = c.args.program }; arg = c.args.arg }) c.push.new.self c.requires.running (omega (arith, c.if-program-from.false, c.from.ensures, c.programs.ensures.exact))
    (leb-false _ _ (sym c.if-has_spawned_all.ensures)) (next_is c.resume.ensures.exact ∙ ap (given_index c.args.self.now.machine) c.len-index.ensures.exact) c.push.ensures
