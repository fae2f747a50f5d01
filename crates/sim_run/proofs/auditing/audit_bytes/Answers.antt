use Rattle.std.proofs.Common.{sym, subst}
use Rattle.answers.specs.declared.status.Status.{Status}
use Rattle.sim_run.specs.BeforeAnswerLine.{PutReply, PutsSome}
use Rattle.sim_run.specs.Replies.{Audits}
use Rattle.sim_run.proofs.Audited.{bad_put}
use Rattle.sim_run.proofs.auditing.audit_bytes.Goals as goal

pub returns-in-Err-clause-replied : goal.returns-in-Err-clause-replied
returns-in-Err-clause-replied g c =
    let o = g.K.Sink.seen c.args.out.now in
    subst (λ (s : Status). PutsSome PutReply (Audits c.args.set.now c.args.bytes.now) o o s) (sym c.of_report.ensures) (bad_put c.args.set.now c.args.bytes.now _ c.in-Err.refusal o c.in-Err.ensures.bad)
