use Rattle.std.proofs.Common.{◌≡◌, ℕ, ◌+◌, ◌<◌, ◌≤◌, length, slice_index}
use Rattle.device_model.specs.Words.{Words}
use Rattle.device_format.specs.Puts.{HasPut}
use Rattle.device_format.proofs.puts.put_words.Given as goal

abbrev pub invariant-loop-i : goal.invariant-loop-i
invariant-loop-i g l =
    let log = g.F.Fram.log in
    record {
      put : (w : Words) → ((i : ℕ) → i < length l.words → w (l.at + i) ≡ slice_index l.words i) → HasPut w l.at l.i (log l.fn.dev) (log l.dev);
      same : g.F.Fram.start l.dev ≡ g.F.Fram.start l.fn.dev;
      never_falls : g.F.Fram.lost l.fn.dev ≤ g.F.Fram.lost l.dev;
    }
