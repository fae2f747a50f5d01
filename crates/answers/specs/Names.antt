-- What names an answer on the output. This project's own.
use Rattle.std.specs.Prelude.{◌⊎◌}
use Rattle.nv_base.specs.Streams.{PutsFront, PutsText, Stream}
use Rattle.answers.specs.Exits.{line_for}
use Rattle.answers.specs.declared.status.Status.{Status}

-- the line that names it was put: whole, unless the sink failed
abbrev pub PutsName : Status → Stream → Stream → Type 0
PutsName status old new = PutsText (line_for status) old new ⊎ PutsFront (line_for status) old new
