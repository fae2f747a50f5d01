use Rattle.std.proofs.Common.{◌≡◌, ◌≤◌, length, map, take}
use Rattle.kernel_model.specs.Cores.{all_but}
use Rattle.validate.specs.Views.{view_of}
use Rattle.core_seats.specs.Others.{views_in}
use Rattle.core_seats.proofs.seats.views_beside.Given as goal

abbrev pub invariant-loop-k : goal.invariant-loop-k
invariant-loop-k l = record {
  listed : map view_of (take l.count l.views) ≡ views_in (all_but l.core (take l.k l.seats));
  few : l.count ≤ l.k;
  long : length l.views ≡ 8;
}
