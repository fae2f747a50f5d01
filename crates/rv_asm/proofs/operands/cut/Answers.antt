use Rattle.std.proofs.Common.{◌≡◌, sym, ◌∙◌, take, drop, length, ◌+◌, ◌-◌, arith}
use Rattle.std.proofs.lemmas.Grind.{common_steps}
use Rattle.rv_asm.proofs.Cuts.{cut_at, uncut}
use Rattle.rv_asm.proofs.operands.cut.Goals as goal

pub returns-in-None : goal.returns-in-None
returns-in-None c = uncut c.args.text.now (sym c.comma_at.ensures ∙ c.in-None.is)

pub returns-in-Some : goal.returns-in-Some
returns-in-Some c =
    let e = cut_at c.args.text.now c.in-Some.end (sym c.comma_at.ensures ∙ c.in-Some.is) in
    let rest : take (length c.args.text.now - (c.in-Some.end + 1)) (drop (c.in-Some.end + 1) c.args.text.now) ≡ drop (c.in-Some.end + 1) c.args.text.now = grind (arith, common_steps) in
    rw rest e
