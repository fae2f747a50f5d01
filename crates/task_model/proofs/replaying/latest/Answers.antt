use Rattle.std.proofs.Common.{◌+◌, sym, ap, ◌∙◌, map, drop, arith}
use Rattle.kernel_model.specs.EntryReplay.{latest}
use Rattle.set_model.specs.Views.{entry_of}
use Rattle.task_model.proofs.ReplayTurns.{latest_more}
use Rattle.task_model.proofs.replaying.latest.Goals as goal

pub loop-entry-preserved : goal.loop-entry-preserved
loop-entry-preserved c =
    ap (λ n. latest n (map entry_of (drop (c.loop-entry.entry-index + 1) c.args.listing.now))) c.max.ensures ∙ sym (latest_more c.loop-entry.clock.0 c.loop-entry.entry-index c.args.listing.now _ (omega arith)) ∙ c.loop-entry.invariant
