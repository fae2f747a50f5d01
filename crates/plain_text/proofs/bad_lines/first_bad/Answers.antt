use Rattle.std.proofs.Common.{◌∙◌, sym}
use Rattle.plain_text.specs.BadLines.{is_bad}
use Rattle.plain_text.proofs.LinesSeen.{position_map}
use Rattle.plain_text.proofs.bad_lines.first_bad.Goals as goal

pub returns-clause-first : goal.returns-clause-first
returns-clause-first c = c.bad_place.ensures.first ∙ sym (position_map is_bad c.args.lines.now)
