use Rattle.std.proofs.Common.{arith}
use Rattle.std.proofs.lemmas.Grind.{common_steps}
use Rattle.report.proofs.events.is_quiet.Goals as goal
use Rattle.report.proofs.events.is_quiet.Goals.{then-is_attempt, else-is_attempt}

pub returns-else-is_refusal : goal.returns-else-is_refusal
returns-else-is_refusal c =
    let power = c.is_power.ensures c.args.set.now in
    elim c.if-is_attempt.branch [
      | then-is_attempt w ↦ grind (arith, common_steps)
      | else-is_attempt w ↦ grind (arith, common_steps)
    ]
