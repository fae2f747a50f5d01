-- From what the auditor answers to a report to what is put.
use Rattle.std.proofs.Common.{arith, ◌≡◌, ℕ, ◌-◌, List, length, length-drop, drop, take, Result, Ok, Err, inl, inr, refl, sym, ◌∙◌, subst, ap}
use Rattle.std.specs.Prelude.{codes}
use Rattle.std.proofs.lemmas.List.{take_all}
use Rattle.nv_base.specs.Streams.{Stream}
use Rattle.nv_base.specs.Refusals as refusals
use Rattle.nv_base.specs.declared.refusals.Refusal.{Refusal}
use Rattle.nv_base.specs.declared.refusals.Refusal.TheVariants as refusal
use Rattle.set_model.specs.Sets.{TaskSet}
use Rattle.script.specs.Parts as scripts
use Rattle.script.specs.Causes.{ScriptError}
use Rattle.report_text.specs.Reports as told
use Rattle.report.specs.declared.report.ReportRefusal.{ReportRefusal}
use Rattle.report.specs.declared.report.ReportRefusal.TheVariants as report
use Rattle.audit.specs.Answers as auditor
use Rattle.audit.specs.declared.answers.Agreed.{Agreed}
use Rattle.audit.specs.declared.answers.AuditRefusal.{AuditRefusal}
use Rattle.audit.specs.declared.answers.AuditRefusal.TheVariants as audit
use Rattle.answers.specs.Refusals.{audit_answer, report_answer, script_answer}
use Rattle.answers.specs.declared.status.Status.{Status}
use Rattle.answers.specs.declared.status.Status.TheVariants.{Differs, Report, Script}
use Rattle.sim_run.specs.BeforeAnswerLine.{PutReply, PutsSome}
use Rattle.sim_run.specs.Promises.{MeansReport}
use Rattle.sim_run.specs.Replies.{AuditReplies, Audits, Puts, Refuses}
use Rattle.sim_run.specs.Summary.{number_line}

-- a report agrees
pub agreed_put : (set : TaskSet) (bytes : List ℕ) (r : told.Report) (a : Agreed) (text : List ℕ) (o q : Stream) (status : Status) → told.IsReportOf set r bytes → auditor.Audits set r (Ok a) → text ≡ number_line (codes "agreed ") a.0 → PutReply (Puts text) o q status
    → PutsSome PutReply (Audits set bytes) o q status
agreed_put set bytes r a text o q status tells h e put = inr (Puts text, (r, tells, h.0, e ∙ ap (λ (n : ℕ). number_line (codes "agreed ") n) h.1), put)

-- it differs
pub differs_put : (set : TaskSet) (bytes : List ℕ) (r : told.Report) (x : AuditRefusal) (o : Stream) → told.IsReportOf set r bytes → auditor.Audits set r (Err x) → PutsSome PutReply (Audits set bytes) o o (audit_answer x)
differs_put set bytes r (audit.Differs line) o tells h = inr (Refuses (Differs line), (r, tells, h), (refl, refl))
differs_put set bytes r audit.NoMemory o tells h = inl (refl, refl)

-- the bytes are none
pub bad_put : (set : TaskSet) (bytes : List ℕ) (R : Type 0) (x : ReportRefusal) (o : Stream) → ((line : ℕ) → (let y : Result R ReportRefusal = Err x in y ≡ Err (report.Bad line)) → told.IsFirstBadLine set line bytes) → PutsSome PutReply (Audits set bytes) o o (report_answer x)
bad_put set bytes R (report.Bad line) o h = inr (Refuses (Report line), h line refl, (refl, refl))
bad_put set bytes R report.NoMemory o h = inl (refl, refl)

-- the script is refused
pub script_put : (input : List ℕ) (r : Result (scripts.Script × ℕ) ScriptError) (x : Refusal ScriptError) (o : Stream) → refusals.Refuses x r → PutsSome PutReply (AuditReplies input r) o o (script_answer x)
script_put input r (refusal.At e) o h = inr (Refuses (Script e), subst (λ (y : Result (scripts.Script × ℕ) ScriptError). AuditReplies input y (Refuses (Script e))) (sym h) refl, (refl, refl))
script_put input r refusal.NoMemory o h = inl (refl, refl)

-- all that stands behind some bytes
behind : (input : List ℕ) (n : ℕ) → take (length input - n) (drop n input) ≡ drop n input
behind input n = take_all (length input - n) (drop n input) (omega (arith, length-drop n input))

-- what is known of the script that was read
pub means_at : (input : List ℕ) (r : Result (scripts.Script × ℕ) ScriptError) (was : scripts.Script × ℕ) (status : Status) → r ≡ Ok was → MeansReport was.0.set (take (length input - was.1) (drop was.1 input)) status
    → (s : scripts.Script) (count : ℕ) → r ≡ Ok (s, count) → MeansReport s.set (drop count input) status
means_at input r was status e h s count f =
    let both : (let x : Result (scripts.Script × ℕ) ScriptError = Ok was in x ≡ Ok (s, count)) = sym e ∙ f in
    let same : was ≡ (s, count) = cc both in
    let all = subst (λ (bytes : List ℕ). MeansReport was.0.set bytes status) (behind input was.1) h in
    subst (λ (p : scripts.Script × ℕ). MeansReport p.0.set (drop p.1 input) status) same all
