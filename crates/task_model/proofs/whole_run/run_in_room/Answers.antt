use Rattle.std.proofs.Common.{◌+◌, ◌-◌, ap, sym, ◌∙◌, length, arith}
use Rattle.kernel_model.specs.Runs.{whole_run}
use Rattle.task_model.specs.TaskSteps.{task_steps}
use Rattle.task_model.proofs.Rests.{begins, ends, goes, keeps_shape, keeps_shape_at_end, same_first, spent}
use Rattle.task_model.proofs.Shapes.{has_shape}
use Rattle.task_model.proofs.whole_run.run_in_room.Goals as goal

pub loop-init : goal.loop-init
loop-init c =
    let p = c.requires.begun in
    let first = same_first c.args.set.now c.args.program.0 c.args.arg c.code.result.now c.fuel-fuel.result (length c.args.machine.now.memory) c.load.new.self c.load.ensures.exact
    c.code.ensures.exact c.fuel-fuel.ensures.exact c.requires.memory in
    record {
      rest =
          begins c.args.set.now c.args.objects.now c.args.program.0 c.args.arg (c.fuel-fuel.result - 0) c.args.progress c.load.new.self c.requires.shape
          p.0 p.1 p.2 p.3 first (sym c.fuel-fuel.ensures.exact ∙ (omega arith));
      count = ap (λ m. m.count) c.load.ensures.exact;
      fuel = ap (λ m. m.fuel) c.load.ensures.exact;
      room = c.load.ensures.room ∙ c.requires.memory;
    }

pub loop-preserved : goal.loop-preserved
loop-preserved c =
    record {
      rest =
          goes c.args.set.now c.args.objects.now c.programs-programs.result (c.fuel-fuel.result - c.loop.counter) (c.fuel-fuel.result - (c.loop.counter + 1)) c.loop.progress c.turn.new.self c.loop.machine c.turn.new.machine
          (whole_run (task_steps c.args.set.now) c.args.program.0 c.args.arg c.args.objects.now) (sym c.programs-programs.ensures.exact) (omega arith) c.loop.invariant.rest c.in_default.ensures.turns;
      count = c.turn.ensures.count ∙ ap (λ n. n + 1) c.loop.invariant.count;
      fuel = c.turn.ensures.fuel ∙ c.loop.invariant.fuel;
      room = c.turn.ensures.room ∙ c.loop.invariant.room;
    }

pub whole_of-requires : goal.whole_of-requires
whole_of-requires c =
    keeps_shape_at_end c.args.set.now c.args.objects.now c.programs-programs.result (c.fuel-fuel.result - c.loop.counter) c.loop.progress c.turn.new.self c.loop.machine c.turn.new.machine
    (whole_run (task_steps c.args.set.now) c.args.program.0 c.args.arg c.args.objects.now) c.in-Some.outcome (sym c.programs-programs.ensures.exact) c.requires.shape c.loop.invariant.rest c.in-Some.ensures.turns

pub whole_of-requires-2 : goal.whole_of-requires-2
whole_of-requires-2 c =
    keeps_shape c.args.set.now c.args.objects.now (c.fuel-fuel.result - c.loop.counter) c.loop.progress c.loop.machine (whole_run (task_steps c.args.set.now) c.args.program.0 c.args.arg c.args.objects.now)
    c.requires.shape c.loop.invariant.rest

pub returns-in-Some-clause-exact : goal.returns-in-Some-clause-exact
returns-in-Some-clause-exact c =
    ends c.args.set.now c.args.objects.now c.programs-programs.result (c.fuel-fuel.result - c.loop.counter) c.loop.progress c.turn.new.self c.loop.machine c.turn.new.machine
    (whole_run (task_steps c.args.set.now) c.args.program.0 c.args.arg c.args.objects.now) c.in-Some.outcome c.whole_of.result (sym c.programs-programs.ensures.exact) c.loop.invariant.rest c.in-Some.ensures.turns c.whole_of.ensures.exact

pub returns-in-Some-clause-shape : goal.returns-in-Some-clause-shape
returns-in-Some-clause-shape c = has_shape c.args.set.now c.whole_of.result.values c.args.objects.now c.whole_of.ensures.alike c.requires.shape

pub returns-clause-exact : goal.returns-clause-exact
returns-clause-exact c =
    spent c.args.set.now c.args.objects.now (c.fuel-fuel.result - c.loop.counter) c.loop.progress c.loop.machine (whole_run (task_steps c.args.set.now) c.args.program.0 c.args.arg c.args.objects.now) c.whole_of-2.result
    (omega (arith, c.loop.invariant.count, c.loop.invariant.fuel, c.loop-test.false)) c.loop.invariant.rest c.whole_of-2.ensures.exact

pub returns-clause-shape : goal.returns-clause-shape
returns-clause-shape c = has_shape c.args.set.now c.whole_of-2.result.values c.args.objects.now c.whole_of-2.ensures.alike c.requires.shape
