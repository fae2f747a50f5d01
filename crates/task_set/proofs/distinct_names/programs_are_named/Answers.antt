use Rattle.std.proofs.Common.{ap, ◌∙◌}
use Rattle.task_set.proofs.NameFacts.{not_named}
use Rattle.task_set.proofs.distinct_names.programs_are_named.Goals as goal

pub returns-then-not-branch : goal.returns-then-not-branch
returns-then-not-branch c =
    not_named (λ p. p.name) c.args.programs.now c.loop-program.program-index c.program-item.result _ _ _ _ c.loop-program-test.true c.loop-program.invariant.0
    (c.as_slice.ensures ∙ ap (λ p. p.name) (c.program.view_is ∙ c.program-item.is)) c.if-not-branch.true (c.in_ok-take_name.ensures.names c.loop-program.invariant.1)
