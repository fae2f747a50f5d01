use Rattle.std.proofs.Common.{refl}
use Rattle.report.proofs.laws.written_report_is_read.Goals as goal

pub returns : goal.returns
returns c = λ set events state boots told is counted. record { lines = events; boots = boots; told = told; counted = counted; state = is; listing = refl; end_line = refl; text = refl }
