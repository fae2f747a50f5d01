use Rattle.std.proofs.Common.{ap, ◌∙◌}
use Rattle.task_set.proofs.NameFacts.{not_named}
use Rattle.task_set.proofs.distinct_names.objects_are_named.Goals as goal

pub returns-then-not-branch : goal.returns-then-not-branch
returns-then-not-branch c =
    not_named (λ o. o.name) c.args.objects.now c.loop-object.object-index c.object-item.result _ _ _ _ c.loop-object-test.true c.loop-object.invariant.0
    (c.as_slice.ensures ∙ ap (λ o. o.name) (c.object.view_is ∙ c.object-item.is)) c.if-not-branch.true (c.in_ok-take_name.ensures.names c.loop-object.invariant.1)
