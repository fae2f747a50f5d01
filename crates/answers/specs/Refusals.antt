-- The answers that tell why an input was not taken. This project's own.
use Rattle.nv_base.specs.declared.refusals.Refusal.{Refusal}
use Rattle.nv_base.specs.declared.refusals.Refusal.TheVariants as refusal
use Rattle.rv_asm.specs.Causes.{AsmError}
use Rattle.script.specs.Causes.{ScriptError}
use Rattle.script.specs.declared.refusals.ScriptCause.TheVariants.{Code}
use Rattle.answers.specs.declared.status.Status.{Status}
use Rattle.answers.specs.declared.status.Status.TheVariants.{Differs, Script, Packed, Report, NoMemory}
use Rattle.task_image.specs.declared.refusal.ImageRefusal.{ImageRefusal}
use Rattle.task_image.specs.declared.refusal.ImageRefusal.TheVariants as image
use Rattle.report.specs.declared.report.ReportRefusal.{ReportRefusal}
use Rattle.report.specs.declared.report.ReportRefusal.TheVariants as report
use Rattle.audit.specs.declared.answers.AuditRefusal.{AuditRefusal}
use Rattle.audit.specs.declared.answers.AuditRefusal.TheVariants as audit

-- of a script: the line that is refused, or want of memory
abbrev pub script_answer : Refusal ScriptError → Status
script_answer (refusal.At e) = Script e
script_answer refusal.NoMemory = NoMemory

-- of assembler text: the line that is faulty, or want of memory
abbrev pub assembly_answer : Refusal AsmError → Status
assembly_answer (refusal.At e) = Script (record { line = e.line; cause = Code e.cause })
assembly_answer refusal.NoMemory = NoMemory

-- of a packed set: the place that is refused, or want of memory
abbrev pub packed_answer : ImageRefusal → Status
packed_answer (image.Bad place) = Packed place
packed_answer image.NoMemory = NoMemory

-- of a report: the line that is refused, or want of memory
abbrev pub report_answer : ReportRefusal → Status
report_answer (report.Bad line) = Report line
report_answer report.NoMemory = NoMemory

-- of an audit: the line of the first difference, or want of memory
abbrev pub audit_answer : AuditRefusal → Status
audit_answer (audit.Differs line) = Differs line
audit_answer audit.NoMemory = NoMemory
