use Rattle.std.proofs.Common.{ℕ, ◌+◌, ◌*◌, ◌^◌, ap, sym, ◌∙◌}
use Rattle.device_model.specs.Layouts.{bit}
use Rattle.commit_writer.specs.Lists.{marked}
use Rattle.commit_writer.proofs.Turned.{turned_passed, turned_taken}
use Rattle.commit_writer.proofs.job.Job.turned.Goals as goal
use Rattle.commit_writer.proofs.job.Job.turned.Goals.{then-changed-from, else-changed-from}

pub loop-page-preserved : goal.loop-page-preserved
loop-page-preserved c =
    let turns = marked c.args.changed.now in
    elim c.if-changed-from.branch [
      | then-changed-from w ↦ turned_taken turns c.loop-page.page c.args.root c.loop-page.turned c.if-changed-from.turned (ap turns (sym c.from.ensures) ∙ w.if-changed-from.true) c.loop-page.invariant (ap (λ (x : ℕ). x + bit c.loop-page.turned c.loop-page.page * 2 ^ c.loop-page.page) w.turned-is ∙ w.turn_bit-turned.ensures)
      | else-changed-from w ↦ w.turned-is ∙ turned_passed turns c.loop-page.page c.args.root c.loop-page.turned (ap turns (sym c.from.ensures) ∙ w.if-changed-from.false) c.loop-page.invariant
    ]
