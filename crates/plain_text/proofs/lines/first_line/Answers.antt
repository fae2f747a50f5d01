use Rattle.std.proofs.Common.{sym, ◌∙◌, arith}
use Rattle.std.proofs.lemmas.Grind.{common_steps}
use Rattle.plain_text.proofs.Cuts.{lines-fed, lines-last}
use Rattle.plain_text.proofs.lines.first_line.Goals as goal

pub returns-in-Some : goal.returns-in-Some
returns-in-Some c =
    let e = lines-fed c.args.bytes.now c.in-Some.end (sym c.feed_at.ensures ∙ c.in-Some.is) in
    grind (arith, common_steps, e, c.without_return.ensures)

pub returns-in-None : goal.returns-in-None
returns-in-None c = lines-last c.args.bytes.now (sym c.feed_at.ensures ∙ c.in-None.is) c.requires
