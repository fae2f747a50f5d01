use Rattle.std.proofs.Common.{◌≡◌, ℕ, ◌<◌, ◌≤◌, ◌+◌, ◌*◌, length}
use Rattle.device_model.specs.Layouts.{words_before}
use Rattle.shadow_index.specs.Looks.{looked}
use Rattle.shadow_index.proofs.Filling.{slot_row}
use Rattle.shadow_index.proofs.tables.slot_places.Given as goal

abbrev pub invariant-loop-o : goal.invariant-loop-o
invariant-loop-o l = record {
  long : length l.places ≡ 128;
  at : l.at ≡ l.slots_at + words_before l.set.objects l.o;
  few : words_before l.set.objects l.o ≤ 512 * l.o;
  small : (o : ℕ) → o < l.o → words_before l.set.objects o ≤ 512 * o;
  done : (o j : ℕ) → o < l.o → j < 2 → looked l.places o j ≡ slot_row l.slots_at l.set o j;
}
