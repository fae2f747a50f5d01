use Rattle.std.proofs.Common.{◌≡◌, ◌≤◌}
use Rattle.recovery.specs.Images.{device_at, words_of}
use Rattle.recovery.specs.Reading.{HasRead}
use Rattle.recovery.proofs.reading.read_rest.Given as goal

abbrev pub invariant-loop : goal.invariant-loop
invariant-loop g l =
    let log = g.F.Fram.log in
    let start = g.F.Fram.start in
    let words = words_of (log l.fn.dev) (start l.fn.dev) in
    record {
      read : HasRead (device_at l.set words) words l.reader l.into;
      number : l.reader.count ≡ l.counter;
      log : log l.dev ≡ log l.fn.dev;
      start : start l.dev ≡ start l.fn.dev;
      lost : g.F.Fram.lost l.fn.dev ≤ g.F.Fram.lost l.dev;
    }
