use Rattle.std.proofs.Common.{◌++◌, ◌<◌, suc, take, drop, length, codes, string_bytes, refl, sym, ap, ◌∙◌, get_or, arith}
use Rattle.std.specs.List.{flat_map}
use Rattle.rv_isa.specs.Names.{mnemonic_of}
use Rattle.rv_isa.specs.Texts.{operand_text, operands_of, operands_text}
use Rattle.rv_isa.specs.declared.syntax.Operand.TheVariants.{Rd}
use Rattle.rv_isa.proofs.Fronts.{on_err, front_done, front_of_part, grown, others_of, other_text, operands_in_parts, row_in_parts, regrouped, regrouped_before, regrouped_inside}
use Rattle.rv_isa.proofs.texts.push_row.Goals as goal

pub returns-in_err-push_str-2-clause-cut_off : goal.returns-in_err-push_str-2-clause-cut_off
returns-in_err-push_str-2-clause-cut_off c =
    on_err c.from_residual-in_err-push_str-2.result (front_done (string_bytes c.args.out.now) (mnemonic_of c.args.i) (operands_text c.args.i (operands_of c.args.i)) _ _ refl
    (c.in_err-push_str-2.ensures.bytes ∙ c.in_ok-push_str.ensures.bytes ∙ ap (λ word. string_bytes c.args.out.now ++ word) c.mnemonic.ensures))

pub returns-in_err-push_operand-clause-cut_off : goal.returns-in_err-push_operand-clause-cut_off
returns-in_err-push_operand-clause-cut_off c =
    let i = c.args.i in
    let xs = c.operands.result.now in
    let more = flat_map (other_text i) (others_of xs) in
    let m = c.in_ok-push_str.ensures.bytes ∙ ap (λ word. string_bytes c.args.out.now ++ word) c.mnemonic.ensures in
    let e = ap (λ ops. mnemonic_of i ++ operands_text i ops) (sym c.operands.ensures) ∙ ap (λ text. mnemonic_of i ++ text) (operands_in_parts i xs Rd c.in-len1-up.len_at_least) in
    on_err c.from_residual-in_err-push_operand.result (front_of_part (string_bytes c.args.out.now) (mnemonic_of i ++ codes " ") (operand_text i (get_or xs 0 Rd)) more _ _ _
    (e ∙ regrouped (mnemonic_of i) (codes " ") (operand_text i (get_or xs 0 Rd)) more) (grown _ _ _ _ _ m c.in_ok-push_str-2.ensures.bytes) c.in_err-push_operand.ensures.cut_off)

pub returns-in_err-push_str-3-clause-cut_off : goal.returns-in_err-push_str-3-clause-cut_off
returns-in_err-push_str-3-clause-cut_off c =
    let i = c.args.i in
    let xs = c.operands.result.now in
    let k = c.loop-operand.operand-index in
    let l : k < length (others_of xs) = omega arith in
    let first = operand_text i (get_or xs 0 Rd) in
    let before = flat_map (other_text i) (take k (others_of xs)) in
    let rest = other_text i (get_or (others_of xs) k Rd) ++ flat_map (other_text i) (drop (suc k) (others_of xs)) in
    let m = c.in_ok-push_str.ensures.bytes ∙ ap (λ word. string_bytes c.args.out.now ++ word) c.mnemonic.ensures in
    let s = grown _ _ _ _ _ (grown _ _ _ _ _ m c.in_ok-push_str-2.ensures.bytes) c.in_ok-push_operand.ensures.whole in
    on_err c.from_residual-in_err-push_str-3.result (front_done (string_bytes c.args.out.now) (mnemonic_of i ++ codes " " ++ first ++ before) rest _ _
    (row_in_parts i xs k Rd c.operands.ensures c.in-len1-up.len_at_least l ∙ regrouped_before (mnemonic_of i) (codes " ") first before rest)
    (c.in_err-push_str-3.ensures.bytes ∙ grown _ _ _ _ _ s c.loop-operand.invariant))

pub returns-in_err-push_operand-2-clause-cut_off : goal.returns-in_err-push_operand-2-clause-cut_off
returns-in_err-push_operand-2-clause-cut_off c =
    let i = c.args.i in
    let xs = c.operands.result.now in
    let k = c.loop-operand.operand-index in
    let l : k < length (others_of xs) = omega arith in
    let first = operand_text i (get_or xs 0 Rd) in
    let before = flat_map (other_text i) (take k (others_of xs)) in
    let this = operand_text i (get_or (others_of xs) k Rd) in
    let behind = flat_map (other_text i) (drop (suc k) (others_of xs)) in
    let m = c.in_ok-push_str.ensures.bytes ∙ ap (λ word. string_bytes c.args.out.now ++ word) c.mnemonic.ensures in
    let s = grown _ _ _ _ _ (grown _ _ _ _ _ m c.in_ok-push_str-2.ensures.bytes) c.in_ok-push_operand.ensures.whole in
    on_err c.from_residual-in_err-push_operand-2.result (front_of_part (string_bytes c.args.out.now) (mnemonic_of i ++ codes " " ++ first ++ before ++ codes ", ") this behind _ _ _
    (row_in_parts i xs k Rd c.operands.ensures c.in-len1-up.len_at_least l ∙ regrouped_inside (mnemonic_of i) (codes " ") first before (codes ", ") this behind)
    (grown _ _ _ _ _ (grown _ _ _ _ _ s c.loop-operand.invariant) c.in_ok-push_str-3.ensures.bytes) c.in_err-push_operand-2.ensures.cut_off)
