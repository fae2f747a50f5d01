-- What bytes are read as: the script, or the first line that is refused and its first cause. This project's own.
use Rattle.std.specs.Prelude.{ℕ, ◌+◌, nat_lt, List, [], ◌∷◌, length, Option, Some, Result, Ok, Err, if◌then◌else◌}
use Rattle.std.specs.Str.Lines.{lines}
use Rattle.nv_base.specs.declared.limits.TheConstants.{MAX_INPUT}
use Rattle.script.specs.declared.refusals.ScriptCause.{ScriptCause}
use Rattle.script.specs.declared.refusals.ScriptCause.TheVariants.{Long, End}
use Rattle.script.specs.Causes.{ScriptError}
use Rattle.script.specs.declared.keyword.Stage.{Stage}
use Rattle.script.specs.declared.keyword.Stage.TheVariants.{Run}
use Rattle.nv_base.specs.Results.{◌>>=◌}
use Rattle.script.specs.Parts.{Parts, Script, nothing, script_of}
use Rattle.script.specs.Lines.{line_after}
use Rattle.script.specs.Sections.{Section, Single, Block, sections, line_count}
use Rattle.nv_base.specs.Refusals.{at}
use Rattle.script.specs.Blocks.{block_after}

-- what a section gives whose first line is n
abbrev pub section_after : ℕ → Parts → Section → Result Parts ScriptError
section_after n p (Single line) = at n (line_after n p line)
section_after n p (Block kind words body end) = block_after n p kind words body end

-- what sections give from line n on, or the first line that is refused, and the number of the line behind them
unfoldable pub sections_after : ℕ → Parts → List Section → Result (ℕ × Parts) ScriptError
sections_after n p [] = Ok (n, p)
sections_after n p (section ∷ others) = do
  q ← section_after n p section
  sections_after (n + line_count section) q others

abbrev pub is_whole : Parts → Option Stage → Result Parts ScriptCause
is_whole p (Some Run) = Ok p
is_whole p _ = Err End

-- a script ends with its `run` line
abbrev pub ended : ℕ × Parts → Result Script ScriptError
ended (n, p) = do
  q ← at n (is_whole p p.last)
  Ok (script_of q)

unfoldable pub read : List ℕ → Result Script ScriptError
read bytes =
    if nat_lt MAX_INPUT (length bytes) then at 0 (Err Long)
    else sections_after 1 nothing (sections (lines bytes)) >>= ended
