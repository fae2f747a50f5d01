use Rattle.std.proofs.Common.{◌≡◌, ◌++◌, map, take}
use Rattle.kernel_model.specs.Turns.{Finish}
use Rattle.set_model.specs.Views.{entry_of}
use Rattle.report_text.specs.Report.{lines_text}
use Rattle.sim_run.proofs.finishes.Text.push_finishes.Given as goal

abbrev pub invariant-loop-entry : goal.invariant-loop-entry
invariant-loop-entry l = l.self.bytes.items ≡ l.initial.self.bytes.items ++ lines_text l.set (map (λ e. Finish e) (map entry_of (take l.entry-index l.entries)))
