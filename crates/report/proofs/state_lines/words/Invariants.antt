use Rattle.std.proofs.Common.{◌≡◌, ◌-◌, ◌++◌, length, option_map}
use Rattle.set_model.specs.Sets.{TaskSet}
use Rattle.report.specs.Fields.{values_in}
use Rattle.report.specs.LineReading.{words_shape}
use Rattle.report.proofs.state_lines.words.Given as goal

abbrev pub invariant-loop : goal.invariant-loop
invariant-loop l =
    ((set : TaskSet) → option_map (λ more. l.words.items ++ more) (values_in set (words_shape (l.size - l.counter)) l.rest) ≡ values_in set (words_shape l.fn.size) l.fn.text)
    × (length l.words.items ≡ l.counter)
