use Rattle.std.proofs.Common.{sym, subst, ◌∙◌}
use Rattle.answers.specs.declared.status.Status.{Status}
use Rattle.sim_run.specs.BeforeAnswerLine.{PutReply, PutsSome}
use Rattle.sim_run.specs.Replies.{Audits}
use Rattle.sim_run.proofs.Audited.{agreed_put, differs_put}
use Rattle.sim_run.proofs.auditing.audit_report.Goals as goal

pub returns-in-Ok-clause-replied : goal.returns-in-Ok-clause-replied
returns-in-Ok-clause-replied g c = agreed_put _ _ _ c.in-Ok.count c.as_bytes.result.now _ _ _ c.requires.report c.in-Ok.ensures.exact (c.as_bytes.ensures.value ∙ c.deref.ensures.0 ∙ c.agreed.ensures) c.put_text.ensures.replied

pub returns-in-Err-clause-replied : goal.returns-in-Err-clause-replied
returns-in-Err-clause-replied g c =
    let o = g.K.Sink.seen c.args.out.now in
    subst (λ (s : Status). PutsSome PutReply (Audits c.args.set.now c.args.bytes.now) o o s) (sym c.of_audit.ensures) (differs_put c.args.set.now c.args.bytes.now c.args.report.now c.in-Err.refusal o c.requires.report c.in-Err.ensures.exact)
