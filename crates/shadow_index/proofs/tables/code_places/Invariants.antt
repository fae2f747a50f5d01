use Rattle.std.proofs.Common.{◌≡◌, ℕ, ◌<◌, ◌≤◌, ◌*◌, ◌+◌, length, slice_index}
use Rattle.device_model.specs.Layouts.{code_before, code_place}
use Rattle.shadow_index.proofs.tables.code_places.Given as goal

abbrev pub invariant-loop-p : goal.invariant-loop-p
invariant-loop-p l = record {
  long : length l.places ≡ 16;
  at : l.at ≡ 7 + length l.set.objects + 2 * length l.set.programs + code_before l.set.programs l.p;
  few : code_before l.set.programs l.p ≤ 1024 * l.p;
  done : (p : ℕ) → p < l.p → slice_index l.places p ≡ code_place l.set p;
}
