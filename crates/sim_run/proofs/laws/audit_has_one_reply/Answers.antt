use Rattle.sim_run.proofs.OneAudit.{one_audit}
use Rattle.sim_run.proofs.laws.audit_has_one_reply.Goals as goal

pub returns : goal.returns
returns c = λ set bytes q r limits named h k.
    one_audit set bytes (record {
      leaves = c.replay_leaves_one_state.ensures;
      tells = λ r s. c.report_tells_one_thing.ensures set bytes r s limits named;
      one = c.one_line_is_first.ensures.one set bytes;
      none = c.one_line_is_first.ensures.none set bytes;
    }) q r h k
