use Rattle.report.proofs.OneReading.{one_line}
use Rattle.report.proofs.laws.one_line_is_first.Goals as goal

pub returns-clause-one : goal.returns-clause-one
returns-clause-one c = one_line

pub returns-clause-none : goal.returns-clause-none
returns-clause-none c = λ set bytes n report bad. bad.refused report
