-- What a line that stands alone makes of the lines so far. This project's own.
use Rattle.std.specs.Prelude.{ℕ, ◌==◌, List, [], ◌∷◌, length, Option, Some, None, Result, Ok, Err, if◌then◌else◌}
use Rattle.plain_text.specs.Words.{is_plain, line_words}
use Rattle.script.specs.declared.refusals.ScriptCause.{ScriptCause}
use Rattle.script.specs.declared.refusals.ScriptCause.TheVariants.{Byte, Word, Count}
use Rattle.script.specs.declared.keyword.Keyword.{Keyword}
use Rattle.script.specs.declared.keyword.Keyword.TheVariants.{Nvk, Cores, Memory, Records, Object, Task, Power, Steps, Mix, Run}
use Rattle.set_model.specs.Sets.{TaskSet}
use Rattle.nv_base.specs.Results.{◌>>=◌}
use Rattle.script.specs.Keywords.{keyword_of, stage_of}
use Rattle.script.specs.Words.{allowed}
use Rattle.script.specs.Parts.{Parts, Timeline}
use Rattle.script.specs.SetLines.{format_after, cores_after, memory_after, records_after, object_after, task_after}
use Rattle.script.specs.ScheduleLines.{power_after, steps_after, mix_after}

abbrev pub with_set : Parts → Result TaskSet ScriptCause → Result Parts ScriptCause
with_set p read = do
  set ← read
  Ok (record p { set = set })

abbrev pub with_timeline : Parts → Result Timeline ScriptCause → Result Parts ScriptCause
with_timeline p read = do
  timeline ← read
  Ok (record p { timeline = timeline })

-- line n, by its first word and the others
abbrev pub keyword_after : Keyword → ℕ → Parts → List (List ℕ) → Result Parts ScriptCause
keyword_after Nvk n p words = with_set p (format_after p.set words)
keyword_after Cores n p words = with_set (record p { cores_line = n }) (cores_after p.set words)
keyword_after Memory n p words = with_set p (memory_after p.set words)
keyword_after Records n p words = with_set p (records_after p.set words)
keyword_after Object n p words = with_set p (object_after p.set words)
keyword_after Task n p words = with_set p (task_after p.set words)
keyword_after Power n p words = with_timeline p (power_after p.timeline words)
keyword_after Steps n p words = with_timeline p (steps_after p.set.cores p.timeline words)
keyword_after Mix n p words = with_timeline p (mix_after p.timeline words)
keyword_after Run n p words = if length words == 0 then Ok p else Err Count

-- the first word says what the line is, and whether it may stand here
abbrev pub found : Option Keyword → Result Keyword ScriptCause
found None = Err Word
found (Some keyword) = Ok keyword

-- a line without words gives nothing
unfoldable pub words_after : ℕ → Parts → List (List ℕ) → Result Parts ScriptCause
words_after n p [] = Ok p
words_after n p (first ∷ words) = do
  keyword ← found (keyword_of first)
  stage ← allowed p.last (stage_of keyword)
  q ← keyword_after keyword n p words
  Ok (record q { last = Some stage })

-- line n
abbrev pub line_after : ℕ → Parts → List ℕ → Result Parts ScriptCause
line_after n p line = if is_plain line then words_after n p (line_words line) else Err Byte
