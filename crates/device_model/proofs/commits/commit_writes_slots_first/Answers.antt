use Rattle.std.proofs.Common.{◌+◌, arith, ◌∙◌}
use Rattle.device_model.specs.Commits.{words_before_object}
use Rattle.device_model.proofs.SlotWrites.{early-write, late-place, length-changes, object-change}
use Rattle.device_model.proofs.commits.commit_writes_slots_first.Goals as goal

pub returns-clause-object : goal.returns-clause-object
returns-clause-object g = λ l set h c o i given e m.
    let at = object-change l set c.after.slots c.writes o given i (0, 0) e m in
    early-write set l h c (words_before_object o c.writes + i) (omega (arith, at.0, length-changes l set c.after.slots c.writes)) ∙ at.1

pub returns-clause-others : goal.returns-clause-others
returns-clause-others g = λ l set h c k d a. late-place set l h c d k (omega (arith, a, length-changes l set c.after.slots c.writes))
