-- How much a report within the limit of an input can tell. This project's own.
use Rattle.std.specs.Prelude.{◌≤◌, length}
use Rattle.nv_base.specs.declared.limits.TheConstants.{MAX_INPUT}
use Rattle.report_text.specs.Reports.{Report}

-- so few finishes, lines and open tasks
pub record IsShort (report : Report) : Type 0 where
  pub listing : length report.listing ≤ 1000000
  pub end_line : report.end_line ≤ MAX_INPUT
  pub tasks : length report.state.tasks ≤ MAX_INPUT
