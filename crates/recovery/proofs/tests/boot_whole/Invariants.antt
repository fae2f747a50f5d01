use Rattle.std.proofs.Common.{◌≡◌}
use Rattle.recovery.specs.Images.{words_of}
use Rattle.recovery.specs.Booting.{IsBooting}
use Rattle.recovery.proofs.tests.boot_whole.Given as goal

abbrev pub invariant-loop-turn : goal.invariant-loop-turn
invariant-loop-turn g l =
    let log = g.F.Fram.log in
    let start = g.F.Fram.start in
    record {
      booting : IsBooting l.set (words_of (log l.fn.dev) (start l.fn.dev)) l.boot l.into;
      log : log l.dev ≡ log l.fn.dev;
      start : start l.dev ≡ start l.fn.dev;
    }
