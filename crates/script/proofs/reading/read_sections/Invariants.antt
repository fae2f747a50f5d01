use Rattle.std.proofs.Common.{◌≡◌, ◌+◌, ◌*◌, ◌≤◌, length}
use Rattle.std.specs.Str.Lines.{lines}
use Rattle.plain_text.specs.Left.{lines_left}
use Rattle.script.specs.Parts.{nothing}
use Rattle.script.specs.Reading.{sections_after}
use Rattle.script.specs.Sections.{sections}
use Rattle.script.proofs.reading.read_sections.Given as goal

abbrev pub invariant-sections : goal.invariant-sections
invariant-sections l = record {
  read : sections_after l.number l.draft (sections (lines_left l.lines)) ≡ sections_after 1 nothing (sections (lines l.bytes));
  few : l.number + 2 * length (lines_left l.lines) ≤ 2 * length l.bytes + 1;
  left : length (lines_left l.lines) ≤ length l.bytes;
}

abbrev pub decreases-sections : goal.decreases-sections
decreases-sections l = length (lines_left l.lines)
