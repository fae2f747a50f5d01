use Rattle.std.proofs.Common.{◌≡◌}
use Rattle.plain_text.specs.Left.{words_left}
use Rattle.script.specs.Blocks.{with_words}
use Rattle.script.proofs.block.push_words.Given as goal

abbrev pub invariant-loop-word : goal.invariant-loop-word
invariant-loop-word l = with_words l.code (words_left l.word-iterator) ≡ with_words l.initial.code (words_left l.fn.words)
