use Rattle.std.proofs.Common.{◌≡◌, map, drop}
use Rattle.kernel_model.specs.EntryReplay.{latest}
use Rattle.set_model.specs.Views.{entry_of}
use Rattle.task_model.proofs.replaying.latest.Given as goal

abbrev pub invariant-loop-entry : goal.invariant-loop-entry
invariant-loop-entry l = latest l.clock.0 (map entry_of (drop l.entry-index l.listing)) ≡ latest 0 (map entry_of l.listing)
