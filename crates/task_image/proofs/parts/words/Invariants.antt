use Rattle.std.proofs.Common.{◌≡◌, ℕ, ◌-◌, true, []}
use Rattle.task_image.specs.Reading.{number, several}
use Rattle.task_image.proofs.parts.words.Given as goal

abbrev pub invariant-loop : goal.invariant-loop
invariant-loop l = several {A = ℕ} (l.n - l.counter) (λ _. number 4 (λ _. true)) l.words l.cursor ≡ several l.n (λ _. number 4 (λ _. true)) [] l.fn.cursor
