use Rattle.std.proofs.Common.{◌≡◌}
use Rattle.device_model.specs.Layouts.{turned_bits}
use Rattle.commit_writer.specs.Lists.{marked}
use Rattle.commit_writer.proofs.job.Job.turned.Given as goal

abbrev pub invariant-loop-page : goal.invariant-loop-page
invariant-loop-page l = l.turned ≡ turned_bits (marked l.changed) 0 l.page l.root
