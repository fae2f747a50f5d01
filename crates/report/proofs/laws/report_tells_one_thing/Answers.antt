use Rattle.report.proofs.OneReading.{one_report}
use Rattle.report.proofs.laws.report_tells_one_thing.Goals as goal

pub returns : goal.returns
returns c = λ set bytes r s h named one other. one_report set named h.cores.1 bytes r s one other
