use Rattle.std.proofs.Common.{◌≡◌, ◌≤◌, ◌*◌}
use Rattle.device_model.specs.Words.{Words}
use Rattle.device_model.specs.Devices.{layout_on}
use Rattle.device_format.specs.Fresh.{HasPages}
use Rattle.device_format.specs.Shown.{device_in}
use Rattle.device_format.specs.Puts.{HasPut}
use Rattle.device_format.proofs.pages.put_pages.Given as goal

abbrev pub invariant-loop-page : goal.invariant-loop-page
invariant-loop-page g l =
    let log = g.F.Fram.log in
    record {
      put : (w : Words) → HasPages (layout_on (device_in l.set l.places)) (g.S.Fresh.index l.state l.set) w → HasPut w (layout_on (device_in l.set l.places)).pages_at (2 * (l.page * (layout_on (device_in l.set l.places)).page_words)) (log l.fn.dev) (log l.dev);
      same : g.F.Fram.start l.dev ≡ g.F.Fram.start l.fn.dev;
      never_falls : g.F.Fram.lost l.fn.dev ≤ g.F.Fram.lost l.dev;
    }
