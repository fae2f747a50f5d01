use Rattle.std.proofs.Common.{◌≡◌, ◌+◌, map, length, Some}
use Rattle.plain_text.specs.Left.{lines_left}
use Rattle.script.specs.Sections.{sections_from}
use Rattle.script.specs.Views.{open_of}
use Rattle.script.proofs.section.take_block.Given as goal

abbrev pub invariant-loop-line : goal.invariant-loop-line
invariant-loop-line l = record {
  next : (goal.iterator-loop-line).can_next l.lines × (goal.iterator-loop-line).is_finite l.lines;
  sections : sections_from (Some (record (open_of l.opening) { body = map (λ line. line.now) l.body.items })) (lines_left l.lines) ≡ sections_from (Some (open_of l.opening)) (lines_left l.initial.lines);
  counted : length l.body.items + length (lines_left l.lines) ≡ length (lines_left l.initial.lines);
}
