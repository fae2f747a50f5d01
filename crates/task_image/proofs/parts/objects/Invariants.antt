use Rattle.std.proofs.Common.{◌≡◌, ◌-◌, map, []}
use Rattle.task_image.specs.Reading.{several}
use Rattle.task_image.specs.Unpacked.{object}
use Rattle.task_image.proofs.parts.objects.Given as goal

abbrev pub invariant-loop : goal.invariant-loop
invariant-loop l = record {
  taken : map (λ k. k.now) l.taken.keys ≡ map (λ o. o.name) l.objects;
  so_far : several (l.n - l.counter) (λ before. object (map (λ o. o.name) before)) l.objects l.cursor ≡ several l.n (λ before. object (map (λ o. o.name) before)) [] l.fn.cursor;
}
