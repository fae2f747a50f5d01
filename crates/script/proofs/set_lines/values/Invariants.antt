use Rattle.std.proofs.Common.{◌≡◌}
use Rattle.plain_text.specs.Left.{words_left}
use Rattle.script.specs.Results.{each}
use Rattle.script.specs.Words.{value}
use Rattle.script.proofs.Each.{each_from}
use Rattle.script.proofs.set_lines.values.Given as goal

abbrev pub invariant-loop-word : goal.invariant-loop-word
invariant-loop-word l = each_from value l.values (words_left l.word-iterator) ≡ each value (words_left l.fn.words)
