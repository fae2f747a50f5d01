use Rattle.std.proofs.Common.{◌≡◌, ℕ, ◌+◌, ◌<◌, ◌≤◌, slice_index}
use Rattle.device_model.specs.Words.{Words}
use Rattle.fram_dev.specs.Device.{made_in}
use Rattle.device_format.specs.Puts.{HasPut}
use Rattle.device_format.proofs.puts.copy_words.Given as goal

abbrev pub invariant-loop-i : goal.invariant-loop-i
invariant-loop-i g l =
    let log = g.F.Fram.log in
    record {
      put : (w : Words) → ((i : ℕ) → i < l.count → w (l.at + i) ≡ slice_index (made_in (log l.fn.dev) (g.F.Fram.start l.fn.dev)) (l.from + i)) → HasPut w l.at l.i (log l.fn.dev) (log l.dev);
      same : g.F.Fram.start l.dev ≡ g.F.Fram.start l.fn.dev;
      never_falls : g.F.Fram.lost l.fn.dev ≤ g.F.Fram.lost l.dev;
    }
