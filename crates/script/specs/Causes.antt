-- The numbers of the causes, and a cause at its line. This project's own.
use Rattle.std.specs.Prelude.{ℕ}
use Rattle.nv_base.specs.declared.refusals.LineError.{LineError}
use Rattle.script.specs.declared.refusals.ScriptCause.{ScriptCause}
use Rattle.script.specs.declared.refusals.ScriptCause.TheVariants.{Long, Byte, Word, Count, Name, Twice, Unknown, Number, Range, Code, Many, End}

abbrev pub cause_number : ScriptCause → ℕ
cause_number Long = 1
cause_number Byte = 2
cause_number Word = 3
cause_number Count = 4
cause_number Name = 5
cause_number Twice = 6
cause_number Unknown = 7
cause_number Number = 8
cause_number Range = 9
cause_number (Code cause) = 10
cause_number Many = 11
cause_number End = 12

-- the first line that is refused, and its first cause
abbrev pub ScriptError : Type 0
ScriptError = LineError ScriptCause
