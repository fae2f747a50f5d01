use Rattle.std.proofs.Common.{◌≡◌}
use Rattle.plain_text.specs.Left.{words_left}
use Rattle.script.specs.Results.{each}
use Rattle.script.specs.ScheduleLines.{on_times}
use Rattle.script.proofs.Each.{each_from}
use Rattle.script.proofs.items.all_on_times.Given as goal

abbrev pub invariant-loop-word : goal.invariant-loop-word
invariant-loop-word l = each_from on_times l.all.items (words_left l.word-iterator) ≡ each on_times (words_left l.fn.words)
