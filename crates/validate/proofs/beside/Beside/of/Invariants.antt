use Rattle.std.proofs.Common.{◌≡◌, ◌≤◌, length, map, take}
use Rattle.validate.specs.Views.{copied_by}
use Rattle.validate.proofs.beside.Beside.of.Given as goal

abbrev pub invariant-loop-i : goal.invariant-loop-i
invariant-loop-i l = record {
  long : length l.intervals ≡ 7;
  intervals : take l.i l.intervals ≡ map (λ v. v.interval) (take l.i l.others);
  pins : take l.copies l.pins ≡ copied_by (take l.i l.others);
  few : l.copies ≤ l.i;
}
