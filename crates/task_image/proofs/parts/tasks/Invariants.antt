use Rattle.std.proofs.Common.{◌≡◌, ◌-◌, map, []}
use Rattle.set_model.specs.Views.{spawn_of}
use Rattle.task_image.specs.Reading.{several}
use Rattle.task_image.specs.Unpacked.{task}
use Rattle.task_image.proofs.parts.tasks.Given as goal

abbrev pub invariant-loop : goal.invariant-loop
invariant-loop l = several (l.n - l.counter) (λ _. task l.programs) (map spawn_of l.tasks) l.cursor ≡ several l.n (λ _. task l.programs) [] l.fn.cursor
