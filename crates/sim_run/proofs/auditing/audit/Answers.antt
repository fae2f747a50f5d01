use Rattle.std.proofs.Common.{sym, subst}
use Rattle.script.specs.Fronts.{read_front}
use Rattle.answers.specs.declared.status.Status.{Status}
use Rattle.sim_run.specs.BeforeAnswerLine.{PutReply, PutsSome}
use Rattle.sim_run.specs.Replies.{AuditReplies}
use Rattle.sim_run.proofs.Audited.{means_at, script_put}
use Rattle.sim_run.proofs.auditing.audit.Goals as goal

pub returns-in-Ok-clause-means : goal.returns-in-Ok-clause-means
returns-in-Ok-clause-means g c = means_at c.args.input.now (read_front c.args.input.now) _ c.audit_bytes.result c.in-Ok.ensures.reads c.audit_bytes.ensures.means

pub returns-in-Err-clause-replied : goal.returns-in-Err-clause-replied
returns-in-Err-clause-replied g c =
    let o = g.K.Sink.seen c.args.out.now in
    subst (λ (s : Status). PutsSome PutReply (AuditReplies c.args.input.now (read_front c.args.input.now)) o o s) (sym c.of_script.ensures) (script_put c.args.input.now (read_front c.args.input.now) c.in-Err.refusal o c.in-Err.ensures.reads)
