use Rattle.std.proofs.Common.{◌≡◌, ◌-◌, map, []}
use Rattle.task_image.specs.Reading.{several}
use Rattle.task_image.specs.Unpacked.{program}
use Rattle.task_image.proofs.parts.programs.Given as goal

abbrev pub invariant-loop : goal.invariant-loop
invariant-loop l = record {
  taken : map (λ k. k.now) l.taken.keys ≡ map (λ p. p.name) l.programs;
  so_far : several (l.n - l.counter) (λ before. program l.memory (map (λ p. p.name) before)) l.programs l.cursor ≡ several l.n (λ before. program l.memory (map (λ p. p.name) before)) [] l.fn.cursor;
}
