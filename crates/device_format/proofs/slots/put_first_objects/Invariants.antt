use Rattle.std.proofs.Common.{◌≡◌, ◌≤◌, slice_index}
use Rattle.device_model.specs.Words.{Words}
use Rattle.set_model.specs.Sets.{object_at}
use Rattle.device_model.specs.Layouts.{slots_at, words_before}
use Rattle.device_model.specs.Devices.{layout_on}
use Rattle.device_format.specs.Fresh.{HasObjects}
use Rattle.device_format.specs.Shown.{device_in}
use Rattle.device_format.specs.Puts.{HasPut}
use Rattle.device_format.proofs.slots.put_first_objects.Given as goal

abbrev pub invariant-loop-o : goal.invariant-loop-o
invariant-loop-o g l =
    let log = g.F.Fram.log in
    record {
      put : (w : Words) → HasObjects (layout_on (device_in l.set l.places)) l.set (λ o. slice_index (object_at l.set o).first) w → HasPut w (slots_at (layout_on (device_in l.set l.places))) (words_before l.set.objects l.o) (log l.fn.dev) (log l.dev);
      same : g.F.Fram.start l.dev ≡ g.F.Fram.start l.fn.dev;
      never_falls : g.F.Fram.lost l.fn.dev ≤ g.F.Fram.lost l.dev;
    }
