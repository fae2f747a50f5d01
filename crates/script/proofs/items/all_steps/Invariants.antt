use Rattle.std.proofs.Common.{◌≡◌, map}
use Rattle.plain_text.specs.Left.{words_left}
use Rattle.power_trace.specs.Items.{item_of}
use Rattle.script.specs.Results.{each}
use Rattle.script.specs.ScheduleLines.{steps}
use Rattle.script.proofs.Each.{each_from}
use Rattle.script.proofs.items.all_steps.Given as goal

abbrev pub invariant-loop-word : goal.invariant-loop-word
invariant-loop-word l = each_from (steps l.cores) (map item_of l.all.items) (words_left l.word-iterator) ≡ each (steps l.cores) (words_left l.fn.words)
