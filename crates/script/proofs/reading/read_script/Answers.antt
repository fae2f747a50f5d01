use Rattle.std.specs.Str.Lines.{lines}
use Rattle.script.specs.Sections.{sections}
use Rattle.script.proofs.Whole.{taken_within}
use Rattle.script.proofs.reading.read_script.Goals as goal

pub finish-requires : goal.finish-requires
finish-requires c = λ last. taken_within c.words_are_few.ensures c.in_ok-draft.number c.in_ok-draft.draft (sections (lines c.args.bytes.now)) c.in_ok-draft.ensures last
