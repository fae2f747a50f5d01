use Rattle.std.proofs.Common.{ap, sym, ◌∙◌, nat_lt, length}
use Rattle.std.proofs.lemmas.Bool.{ltb-true}
use Rattle.report.proofs.TakenEvents.{last_is, none_is}
use Rattle.report.proofs.reader.are_below.Goals as goal

pub returns-in-Some : goal.returns-in-Some
returns-in-Some c =
    let last = c.in-Some.ensures.item in
    ap (λ t. nat_lt t.id.0 c.args.id.0) last.1 ∙ sym (last_is c.in-Some.task.now c.args.tasks.now c.args.id.0 (ltb-true 0 (length c.args.tasks.now) (sym last.0)))

pub returns-in-None : goal.returns-in-None
returns-in-None c = none_is c.args.tasks.now c.args.id.0 c.in-None.ensures.item.3
