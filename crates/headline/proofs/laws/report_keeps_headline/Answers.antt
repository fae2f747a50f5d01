use Rattle.std.proofs.Common.{refl, subst}
use Rattle.rv_core.specs.State.{MachineState}
use Rattle.kernel_model.specs.Execution.{Execution}
use Rattle.kernel_model.specs.Report.{EachOnce}
use Rattle.headline.proofs.Promise.{execution_of}
use Rattle.headline.proofs.laws.report_keeps_headline.Goals as goal

pub returns : goal.returns
returns c = λ o events up ids.
    let x : Execution MachineState = execution_of o events up ids in
    record {
      report = refl;
      serial = c.listing_is_serial.ensures x;
      acknowledged = c.report_tells_listing.ensures x;
      once = subst EachOnce (c.report_tells_listing.ensures x) (c.no_task_is_told_twice.ensures x);
      started = λ n core task at e. c.start_line_is_fresh.ensures x n core task at e;
    }
