use Rattle.std.proofs.Common.{◌≡◌, ◌+◌, ◌*◌, ◌≤◌, List, map, drop}
use Rattle.kernel_model.specs.EntryReplay.{Rerun}
use Rattle.report.specs.Views.{listed_of}
use Rattle.task_model.specs.Finals.{AreSpawnsOf}
use Rattle.audit.specs.Differences.{wrong_first}
use Rattle.audit.proofs.lines.wrong_first.Given as goal

abbrev pub invariant-loop-place : goal.invariant-loop-place
invariant-loop-place l = record {
  rest : (reruns : List Rerun) → AreSpawnsOf l.spawned reruns → wrong_first reruns 0 l.fn.first (map listed_of l.listing) ≡ wrong_first reruns l.place l.next (map listed_of (drop l.place l.listing));
  small : l.next ≤ 1025 + 255 * l.place;
}
