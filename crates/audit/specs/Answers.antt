-- What an audit answers. This project's own.
use Rattle.std.specs.Prelude.{◌≡◌, length, Some, None, Result, Ok, Err}
use Rattle.set_model.specs.Sets.{TaskSet}
use Rattle.report_text.specs.Reports.{Report}
use Rattle.audit.specs.Differences.{IsFirstDifference, IsSerialReport}
use Rattle.audit.specs.declared.answers.Agreed.{Agreed}
use Rattle.audit.specs.declared.answers.AuditRefusal.{AuditRefusal}
use Rattle.audit.specs.declared.answers.AuditRefusal.TheVariants.{Differs, NoMemory}

-- the line of the first difference, or how many finishes agree
abbrev pub Audits : TaskSet → Report → Result Agreed AuditRefusal → Type 0
Audits set r (Ok agreed) = IsFirstDifference set r None × (agreed.0 ≡ length r.listing)
Audits set r (Err (Differs line)) = IsFirstDifference set r (Some line)
Audits set r (Err NoMemory) = Unit {0}

-- what that says of the report: it agrees where its listing is serial and leaves what it tells, and differs where this is not so
abbrev pub Means : TaskSet → Report → Result Agreed AuditRefusal → Type 0
Means set r (Ok agreed) = IsSerialReport set r
Means set r (Err (Differs line)) = IsSerialReport set r → ⊥
Means set r (Err NoMemory) = Unit {0}
