use Rattle.std.proofs.Common.{sym, ap, ◌∙◌, ◌-◌, ◌+◌, map, arith}
use Rattle.std.proofs.lemmas.List.{map-append}
use Rattle.set_model.specs.Formatted.{formatted}
use Rattle.set_model.specs.Views.{entry_of}
use Rattle.task_model.specs.Finals.{runs_of, state_of}
use Rattle.task_model.specs.FirstFinishes.{first_finishes}
use Rattle.task_model.proofs.FirstSteps.{advanced_none, advanced_some, finished_after, goes_on, room_at, stops}
use Rattle.task_model.proofs.FirstSerial.{serial_at}
use Rattle.task_model.proofs.first_finishes.serial_first.Goals as goal

pub returns-in_default-clause-exact : goal.returns-in_default-clause-exact
returns-in_default-clause-exact c =
    stops c.args.set.now (first_finishes c.args.set.now c.args.n (formatted c.args.set.now)) (map entry_of c.loop.entries.items) (c.args.n - c.loop.counter) (c.args.n - (c.loop.counter + 1)) (state_of c.loop.state) (state_of c.advance.new.self) (omega arith) c.loop.invariant.rest
    (advanced_none c.args.set.now (state_of c.loop.state) (state_of c.advance.new.self) c.in_ok-entry.field-0 c.in_ok-entry.ensures.advances c.in_default.not-Some)

pub returns-in_default-clause-serial : goal.returns-in_default-clause-serial
returns-in_default-clause-serial c =
    serial_at (runs_of c.args.set.now) (formatted c.args.set.now) (first_finishes c.args.set.now c.args.n (formatted c.args.set.now)) (map entry_of c.loop.entries.items) (state_of c.advance.new.self)
    (returns-in_default-clause-exact c) (c.first_finishes_are_serial.ensures c.args.set.now c.args.n c.memory.ensures.limits c.requires)

pub loop-preserved : goal.loop-preserved
loop-preserved c = record {
  rest =
      goes_on c.args.set.now (first_finishes c.args.set.now c.args.n (formatted c.args.set.now)) (map entry_of c.loop.entries.items) (c.args.n - c.loop.counter) (c.args.n - (c.loop.counter + 1)) (state_of c.loop.state) (state_of c.advance.new.self) c.in-Some.entry (omega arith) c.loop.invariant.rest
      (advanced_some c.args.set.now (state_of c.loop.state) (state_of c.advance.new.self) c.in_ok-entry.field-0 c.in-Some.entry c.in_ok-entry.ensures.advances c.in-Some.is)
      ∙ ap (λ es. finished_after es (first_finishes c.args.set.now (c.args.n - (c.loop.counter + 1)) (state_of c.advance.new.self))) (sym (ap (map entry_of) c.in_ok-push.ensures.items ∙ map-append entry_of c.loop.entries.items _));
  fit = c.in_ok-entry.ensures.fit;
  room = c.in_ok-entry.ensures.room (c.args.n - (c.loop.counter + 1)) (room_at (c.args.n - c.loop.counter) (c.args.n - (c.loop.counter + 1) + 1) (state_of c.loop.state) (omega arith) c.loop.invariant.room);
  memory = c.in_ok-entry.ensures.memory;
}
