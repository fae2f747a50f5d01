use Rattle.std.proofs.Common.{◌≡◌, map, drop}
use Rattle.report.specs.Views.{listed_of}
use Rattle.audit.specs.Differences.{wrong_number}
use Rattle.audit.proofs.lines.wrong_number.Given as goal

abbrev pub invariant-loop-line : goal.invariant-loop-line
invariant-loop-line l = record {
  rest : wrong_number 0 (map listed_of l.listing) ≡ wrong_number l.number (map listed_of (drop l.line-index l.listing));
  number : l.number ≡ l.line-index;
}
