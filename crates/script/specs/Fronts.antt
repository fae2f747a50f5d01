-- A script up to and with its `run` line, with anything behind it. This project's own.
use Rattle.std.specs.Prelude.{ℕ, zero, suc, ◌+◌, ◌==◌, ◌&&◌, Bool, true, false, not, is_some, List, [], ◌∷◌, ◌++◌, length, take, drop, position, Option, Some, None, Result, Ok, if◌then◌else◌, codes}
use Rattle.std.specs.Str.Lines.{lines}
use Rattle.nv_base.specs.Results.{◌>>=◌}
use Rattle.plain_text.specs.Words.{line_words}
use Rattle.script.specs.Causes.{ScriptError}
use Rattle.script.specs.Keywords.{is}
use Rattle.script.specs.Parts.{Script}
use Rattle.script.specs.Reading.{read}
use Rattle.script.specs.Sections.{ends, opened}

abbrev pub begins_run : List (List ℕ) → Bool
begins_run [] = false
begins_run (first ∷ words) = is first (codes "run")

-- the first word of a line is `run`
abbrev pub is_run : List ℕ → Bool
is_run line = begins_run (line_words line)

-- whether a block is open behind a line, where one was open before it or not
abbrev pub is_open_after : Bool → List ℕ → Bool
is_open_after true line = not (ends line)
is_open_after false line = is_some (opened line)

-- how many lines there are up to and with the first that stands in no block and begins with `run`: all where there is none
abbrev pub lines_to_run : Bool → List (List ℕ) → ℕ
lines_to_run open_before [] = 0
lines_to_run open_before (line ∷ lines) = if not open_before && is_run line then 1 else suc (lines_to_run (is_open_after open_before line) lines)

abbrev pub behind_feed : ℕ → Option ℕ → ℕ
behind_feed len None = len
behind_feed len (Some feed) = feed + 1

-- how many bytes the first line is, with its line feed
abbrev pub line_end : List ℕ → ℕ
line_end bytes = behind_feed (length bytes) (position (λ b. b == 10) bytes)

-- the first n lines, each with its line feed
abbrev pub first_lines : ℕ → List ℕ → List ℕ
first_lines zero bytes = []
first_lines (suc n) bytes = take (line_end bytes) bytes ++ first_lines n (drop (line_end bytes) bytes)

-- the bytes up to and with the `run` line
unfoldable pub front_of : List ℕ → List ℕ
front_of bytes = first_lines (lines_to_run false (lines bytes)) bytes

-- the script that they are read as, and how many they are: what stands behind them is not looked at
unfoldable pub read_front : List ℕ → Result (Script × ℕ) ScriptError
read_front bytes = do
  script ← read (front_of bytes)
  Ok (script, length (front_of bytes))
