use Rattle.std.proofs.Common.{◌≡◌, ◌+◌, ◌≤◌, length, refl, ◌∙◌, arith}
use Rattle.std.proofs.lemmas.Grind.{common_steps}
use Rattle.nv_base.proofs.SoFar.{more_gone}
use Rattle.nv_base.proofs.whole.read_all.Goals as goal

pub returns-then-n-max-clause-stops : goal.returns-then-n-max-clause-stops
returns-then-n-max-clause-stops g c =
    let e : length c.loop-bytes.bytes.items + c.in-Ok.n ≡ c.args.max + 1 = grind (arith, common_steps) in
    (more_gone _ _ _ _ _ _ _ c.loop-bytes.invariant.given c.in-Ok.ensures.took.took e, c.in-Ok.ensures.took.still ∙ c.loop-bytes.invariant.still)

pub returns-then-is_err-clause-stops : goal.returns-then-is_err-clause-stops
returns-then-is_err-clause-stops g c =
    let l : length c.loop-bytes.bytes.items + c.in-Ok.n ≤ c.args.max = grind (arith, common_steps) in
    ((length c.loop-bytes.bytes.items + c.in-Ok.n, l, more_gone _ _ _ _ _ _ _ c.loop-bytes.invariant.given c.in-Ok.ensures.took.took refl), c.in-Ok.ensures.took.still ∙ c.loop-bytes.invariant.still)
