use Rattle.std.proofs.Common.{◌≡◌, ◌≤◌, ◌-◌}
use Rattle.device_model.specs.Formats.{format_word}
use Rattle.device_model.specs.Devices.{layout_on}
use Rattle.device_format.specs.Shown.{device_in}
use Rattle.device_format.specs.Puts.{HasPut}
use Rattle.device_format.proofs.formatting.put_header.Given as goal

abbrev pub invariant-loop-at : goal.invariant-loop-at
invariant-loop-at g l =
    let log = g.F.Fram.log in
    record {
      put : HasPut (format_word (layout_on (device_in l.set l.places)) l.set) 1 (l.at - 1) (log l.fn.dev) (log l.dev);
      same : g.F.Fram.start l.dev ≡ g.F.Fram.start l.fn.dev;
      never_falls : g.F.Fram.lost l.fn.dev ≤ g.F.Fram.lost l.dev;
      positive : 1 ≤ l.at;
    }
