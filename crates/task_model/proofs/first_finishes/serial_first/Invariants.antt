use Rattle.std.proofs.Common.{◌≡◌, ◌-◌, length, map}
use Rattle.set_model.specs.Formatted.{formatted}
use Rattle.set_model.specs.Views.{entry_of}
use Rattle.task_model.specs.Finals.{IsFit, state_of}
use Rattle.task_model.specs.FirstFinishes.{HasRoom, first_finishes}
use Rattle.task_model.proofs.FirstSteps.{finished_after}
use Rattle.task_model.proofs.first_finishes.serial_first.Given as goal

abbrev pub invariant-loop : goal.invariant-loop
invariant-loop l = record {
  rest : first_finishes l.set l.n (formatted l.set) ≡ finished_after (map entry_of l.entries.items) (first_finishes l.set (l.n - l.counter) (state_of l.state));
  fit : IsFit l.set (state_of l.state);
  room : HasRoom (l.n - l.counter) (state_of l.state);
  memory : length l.machine.memory ≡ l.set.memory;
}
