-- What the parts of a report are in the definitions. This project's own.
use Rattle.std.specs.Prelude.{ℕ}
use Rattle.nv_base.specs.declared.lines.Entry as base_entry
use Rattle.set_model.specs.Views.{entry_of}
use Rattle.report_text.specs.Reports.{Listed}

-- a finish with the number of its line
abbrev pub listed_of : ℕ × base_entry.Entry → Listed
listed_of p = record { line = p.0; entry = entry_of p.1 }
