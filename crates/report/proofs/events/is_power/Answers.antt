use Rattle.std.proofs.Common.{ap, sym, ◌∙◌, ◌||◌, codes, nat_eq}
use Rattle.std.specs.Cmp.Lexicographic.{pointwise}
use Rattle.report.proofs.events.is_power.Goals as goal

pub returns-then-is_some : goal.returns-then-is_some
returns-then-is_some c = λ set. c.if-is_some.true ∙ sym (ap (λ b. b || pointwise nat_eq c.args.text.now (codes "fail")) (sym (c.boot.ensures set) ∙ sym c.is_some.ensures ∙ c.if-is_some.true))

pub returns-else-is_some : goal.returns-else-is_some
returns-else-is_some c = λ set. c.eq.ensures ∙ ap (pointwise nat_eq c.args.text.now) c.as_slice.ensures
    ∙ sym (ap (λ b. b || pointwise nat_eq c.args.text.now (codes "fail")) (sym (c.boot.ensures set) ∙ sym c.is_some.ensures ∙ c.if-is_some.false))
