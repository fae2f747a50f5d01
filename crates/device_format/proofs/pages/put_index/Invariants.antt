use Rattle.std.proofs.Common.{◌≡◌, ℕ, ◌+◌, ◌<◌, ◌≤◌}
use Rattle.device_model.specs.Words.{Words}
use Rattle.device_model.specs.IndexWords.{index_word}
use Rattle.device_format.specs.Puts.{HasPut}
use Rattle.device_format.proofs.pages.put_index.Given as goal

abbrev pub invariant-loop-i : goal.invariant-loop-i
invariant-loop-i g l =
    let log = g.F.Fram.log in
    record {
      put : (w : Words) → ((i : ℕ) → i < l.count → w (l.at + i) ≡ index_word (g.S.Fresh.index l.state l.set) (l.first + i)) → HasPut w l.at l.i (log l.fn.dev) (log l.dev);
      same : g.F.Fram.start l.dev ≡ g.F.Fram.start l.fn.dev;
      never_falls : g.F.Fram.lost l.fn.dev ≤ g.F.Fram.lost l.dev;
    }
