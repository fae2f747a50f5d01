-- The words that name each cause in the line of an answer. This project's own.
use Rattle.std.specs.Prelude.{ℕ, List, codes}
use Rattle.rv_asm.specs.declared.cause.AsmCause.{AsmCause}
use Rattle.rv_asm.specs.declared.cause.AsmCause.TheVariants as code
use Rattle.script.specs.declared.refusals.ScriptCause.{ScriptCause}
use Rattle.script.specs.declared.refusals.ScriptCause.TheVariants as cause

abbrev pub code_word_of : AsmCause → List ℕ
code_word_of code.Mnemonic = codes "code mnemonic"
code_word_of code.Operand = codes "code operand"
code_word_of code.Range = codes "code range"
code_word_of code.Label = codes "code label"
code_word_of code.Twice = codes "code twice"
code_word_of code.TooLong = codes "code toolong"

abbrev pub cause_word : ScriptCause → List ℕ
cause_word cause.Long = codes "long"
cause_word cause.Byte = codes "byte"
cause_word cause.Word = codes "word"
cause_word cause.Count = codes "count"
cause_word cause.Name = codes "name"
cause_word cause.Twice = codes "twice"
cause_word cause.Unknown = codes "unknown"
cause_word cause.Number = codes "number"
cause_word cause.Range = codes "range"
cause_word (cause.Code c) = code_word_of c
cause_word cause.Many = codes "many"
cause_word cause.End = codes "end"
