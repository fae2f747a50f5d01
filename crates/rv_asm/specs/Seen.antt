-- What contracts see of the code's types, which lend from the text: the same without where it lies in memory. This project's own.
use Rattle.std.specs.Prelude.{ℕ, List, [], ◌∷◌, option_map, Result, Ok, Err}
use Rattle.rv_isa.specs.Ranges.{IsInstr, IsReg}
use Rattle.rv_isa.specs.declared.syntax.Operand.{Operand}
use Rattle.rv_isa.specs.declared.instruction.Instr.{Instr}
use Rattle.rv_asm.specs.declared.cause.AsmCause.{AsmCause}
use Rattle.rv_asm.specs.declared.forms.Form as code_form
use Rattle.rv_asm.specs.declared.operands.Value as code_value
use Rattle.rv_asm.specs.declared.operands.Value.TheVariants as values
use Rattle.rv_asm.specs.declared.operands.Open as code_open
use Rattle.rv_asm.specs.declared.lines.Body as code_body
use Rattle.rv_asm.specs.declared.lines.Body.TheVariants as bodies
use Rattle.rv_asm.specs.declared.lines.Line as code_line
use Rattle.rv_asm.specs.declared.loads.Load as code_load
use Rattle.rv_asm.specs.declared.loads.Load.TheVariants as loads
use Rattle.rv_asm.specs.declared.words.Code as code_code
use Rattle.rv_asm.specs.declared.words.Code.TheVariants as codes
use Rattle.rv_asm.specs.Operands.{Value, Absent, Number, Label, Open, opened}
use Rattle.rv_asm.specs.Lines.{Body, Nothing, Instruction, Word, Load, Line, line}

-- the operands and the template of a form
abbrev pub form_seen : code_form.Form → List Operand × Instr
form_seen f = (f.operands.now, f.template)

abbrev pub value_seen : code_value.Value → Value
value_seen values.Absent = Absent
value_seen (values.Number z) = Number z
value_seen (values.Label name) = Label name.now

abbrev pub open_seen : code_open.Open → Open
open_seen o = opened o.instr (value_seen o.value)

abbrev pub body_seen : code_body.Body → Body
body_seen bodies.Nothing = Nothing
body_seen (bodies.Instruction o) = Instruction (open_seen o)
body_seen (bodies.Word z) = Word z
body_seen (bodies.Load rd z) = Load rd z

abbrev pub result_seen : Result code_body.Body AsmCause → Result Body AsmCause
result_seen (Ok body) = Ok (body_seen body)
result_seen (Err cause) = Err cause

abbrev pub line_seen : code_line.Line → Line
line_seen l = line (option_map (λ name. name.now) l.label) (result_seen l.body)

-- the registers and the fields are within their ranges, but for the value
abbrev pub IsWhole : Result Body AsmCause → Type 0
IsWhole (Ok Nothing) = Unit {0}
IsWhole (Ok (Instruction o)) = IsInstr o.instr
IsWhole (Ok (Word z)) = Unit {0}
IsWhole (Ok (Load rd z)) = IsReg rd
IsWhole (Err cause) = Unit {0}

abbrev pub load_seen : code_load.Load → List Instr
load_seen (loads.One i) = i ∷ []
load_seen (loads.Two i j) = i ∷ j ∷ []

abbrev pub code_words : code_code.Code → List ℕ
code_words codes.Nothing = []
code_words (codes.One a) = a ∷ []
code_words (codes.Two a b) = a ∷ b ∷ []

abbrev pub code_seen : Result code_code.Code AsmCause → Result (List ℕ) AsmCause
code_seen (Ok code) = Ok (code_words code)
code_seen (Err cause) = Err cause
