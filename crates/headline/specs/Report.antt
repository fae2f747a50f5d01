-- The report of a run, as bytes. This project's own.
use Rattle.std.specs.Prelude.{ℕ, List, ◌++◌}
use Rattle.kernel_model.specs.Events.{Event}
use Rattle.report_text.specs.Report.{end_part, lines_text}
use Rattle.headline.specs.Runs.{Origin, after, all_lines, state_read}

-- all lines of the run, and then what is durable
abbrev pub report_text : Origin → List Event → List ℕ
report_text o events =
    lines_text o.device.set (all_lines o events) ++ end_part o.device.set (state_read o events) (after o events).boots
