-- The numbers of the causes, and a cause at its line. This project's own.
use Rattle.std.specs.Prelude.{ℕ}
use Rattle.nv_base.specs.declared.refusals.LineError.{LineError}
use Rattle.rv_asm.specs.declared.cause.AsmCause.{AsmCause}
use Rattle.rv_asm.specs.declared.cause.AsmCause.TheVariants.{Mnemonic, Operand, Range, Label, Twice, TooLong}

abbrev pub cause_number : AsmCause → ℕ
cause_number Mnemonic = 1
cause_number Operand = 2
cause_number Range = 3
cause_number Label = 4
cause_number Twice = 5
cause_number TooLong = 6

-- the first faulty line, and its first cause
abbrev pub AsmError : Type 0
AsmError = LineError AsmCause
