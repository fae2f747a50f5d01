use Rattle.std.proofs.Common.{◌≡◌, ℕ, List, ◌+◌, ◌-◌, ◌<◌, ◌≤◌, length, slice_index, arith, ap, ◌∙◌}
use Rattle.set_model.specs.Sets.{program_at}
use Rattle.device_model.specs.Layouts.{code_place}
use Rattle.shadow_index.proofs.CodeLooks.{code_behind, code_inside, first_code}
use Rattle.shadow_index.proofs.header.code_at.Goals as goal

pub returns-then-i-code : goal.returns-then-i-code
returns-then-i-code c = λ magic t.
    let set = c.args.set.now in
    let p : ℕ = c.last_up_to-p.result in
    let l : p < length set.programs = omega (arith, c.programs.ensures.exact, c.from.ensures, c.last_up_to-p.ensures.inside) in
    let place : slice_index c.args.places.now p ≡ code_place set p = t p l in
    let first : slice_index c.args.places.now 0 ≤ c.args.at = omega (arith, t 0 (omega (arith, l)), first_code set, c.requires) in
    let up : code_place set p ≤ c.args.at = omega (arith, c.last_up_to-p.ensures.up_to first, t p l) in
    let code : c.code-code.result.now ≡ (program_at set p).code = c.code-code.ensures.exact in
    let i : c.saturating_sub-i.result ≡ c.args.at - code_place set p = c.saturating_sub-i.ensures ∙ ap (λ (n : ℕ). c.args.at - n) place in
    ap (λ (xs : List ℕ). slice_index xs c.saturating_sub-i.result) code
    ∙ ap (slice_index (program_at set p).code) i
    ∙ code_inside magic set p c.args.at l up (omega (arith, i, ap (length {A = ℕ}) code, c.if-i-code.true))

pub returns-else-i-code : goal.returns-else-i-code
returns-else-i-code c = λ magic t.
    let set = c.args.set.now in
    let p : ℕ = c.last_up_to-p.result in
    let l : p < length set.programs = omega (arith, c.programs.ensures.exact, c.from.ensures, c.last_up_to-p.ensures.inside) in
    let place : slice_index c.args.places.now p ≡ code_place set p = t p l in
    let first : slice_index c.args.places.now 0 ≤ c.args.at = omega (arith, t 0 (omega (arith, l)), first_code set, c.requires) in
    let up : code_place set p ≤ c.args.at = omega (arith, c.last_up_to-p.ensures.up_to first, t p l) in
    let i : c.saturating_sub-i.result ≡ c.args.at - code_place set p = c.saturating_sub-i.ensures ∙ ap (λ (n : ℕ). c.args.at - n) place in
    let words = ap (length {A = ℕ}) c.code-code.ensures.exact in
    code_behind magic set p c.args.at l up (omega (arith, i, words, c.if-i-code.false)) (λ a. let b = c.last_up_to-p.ensures.last (omega (arith, a, c.programs.ensures.exact, c.from.ensures)) in omega (arith, b, t (p + 1) a))
