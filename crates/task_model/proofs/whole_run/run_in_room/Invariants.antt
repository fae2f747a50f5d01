use Rattle.std.proofs.Common.{◌≡◌, ◌-◌, length}
use Rattle.kernel_model.specs.Runs.{whole_run}
use Rattle.task_model.specs.TaskSteps.{task_steps}
use Rattle.task_model.proofs.Rests.{Rests}
use Rattle.task_model.proofs.whole_run.run_in_room.Given as goal

abbrev pub invariant-loop : goal.invariant-loop
invariant-loop l = record {
  rest : Rests l.set l.objects (l.fuel - l.counter) l.progress l.machine (whole_run (task_steps l.set) l.fn.program.0 l.arg l.objects);
  count : l.machine.count ≡ l.counter;
  fuel : l.machine.fuel ≡ l.fuel;
  room : length l.machine.memory ≡ l.set.memory;
}
