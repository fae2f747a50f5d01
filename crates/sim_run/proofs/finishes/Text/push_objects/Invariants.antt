use Rattle.std.proofs.Common.{◌≡◌, ◌++◌, take}
use Rattle.report_text.specs.Report.{objects_text}
use Rattle.sim_run.proofs.finishes.Text.push_objects.Given as goal

abbrev pub invariant-loop-object : goal.invariant-loop-object
invariant-loop-object l = l.self.bytes.items ≡ l.initial.self.bytes.items ++ objects_text (take l.object l.set.objects) (take l.object l.objects)
