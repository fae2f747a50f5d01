use Rattle.std.proofs.Common.{◌≡◌, ◌≤◌, ◌*◌, sum_by, take}
use Rattle.device_model.specs.Layouts.{slots_words}
use Rattle.shadow_index.proofs.lengths.slots_words.Given as goal

abbrev pub invariant-loop-o : goal.invariant-loop-o
invariant-loop-o l = record {
  sum : l.words ≡ sum_by slots_words (take l.o l.set.objects);
  few : l.words ≤ 512 * l.o;
}
