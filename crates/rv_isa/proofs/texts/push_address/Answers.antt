use Rattle.std.proofs.Common.{◌++◌, [], codes, string_bytes, refl, sym, ap, ◌∙◌, append_assoc, w32}
use Rattle.std.specs.Fmt.{signed_decimal}
use Rattle.std.proofs.lemmas.Int.{to_z-of_z}
use Rattle.std.proofs.lemmas.List.{append-nil}
use Rattle.rv_isa.specs.Names.{register_name as name_of_register}
use Rattle.rv_isa.proofs.Fronts.{on_err, front_done, front_if_err, front_of_part, grown}
use Rattle.rv_isa.proofs.texts.push_address.Goals as goal
use Rattle.nv_base.proofs.ForCallers.{four_parts}

pub returns-in_err-push_number-clause-cut_off : goal.returns-in_err-push_number-clause-cut_off
returns-in_err-push_number-clause-cut_off c =
    let e = to_z-of_z w32 c.args.offset c.ranges.offset in
    let h = rw e at c.in_err-push_number.ensures.cut_off in
    on_err c.from_residual.result (front_of_part (string_bytes c.args.out.now) [] (signed_decimal c.args.offset) (codes "(" ++ (name_of_register c.args.base ++ codes ")")) _ (string_bytes c.args.out.now) _
    (four_parts (signed_decimal c.args.offset) (codes "(") (name_of_register c.args.base) (codes ")")) (sym (append-nil (string_bytes c.args.out.now))) h)

pub returns-in_err-push_str-clause-cut_off : goal.returns-in_err-push_str-clause-cut_off
returns-in_err-push_str-clause-cut_off c =
    let e = to_z-of_z w32 c.args.offset c.ranges.offset in
    let h = rw e at c.in_ok-push_number.ensures.whole in
    on_err c.from_residual-in_err-push_str.result (front_done (string_bytes c.args.out.now) (signed_decimal c.args.offset) (codes "(" ++ (name_of_register c.args.base ++ codes ")")) _ _
    (four_parts (signed_decimal c.args.offset) (codes "(") (name_of_register c.args.base) (codes ")")) (c.in_err-push_str.ensures.bytes ∙ h))

pub returns-in_err-push_str-2-clause-cut_off : goal.returns-in_err-push_str-2-clause-cut_off
returns-in_err-push_str-2-clause-cut_off c =
    let e = to_z-of_z w32 c.args.offset c.ranges.offset in
    let h = rw e at c.in_ok-push_number.ensures.whole in
    on_err c.from_residual-in_err-push_str-2.result (front_done (string_bytes c.args.out.now) (signed_decimal c.args.offset ++ codes "(") (name_of_register c.args.base ++ codes ")") _ _
    (append_assoc (signed_decimal c.args.offset ++ codes "(") (name_of_register c.args.base) (codes ")")) (c.in_err-push_str-2.ensures.bytes ∙ grown _ _ _ _ _ h c.in_ok-push_str.ensures.bytes))

pub returns-clause-cut_off : goal.returns-clause-cut_off
returns-clause-cut_off c =
    let e = to_z-of_z w32 c.args.offset c.ranges.offset in
    let h = rw e at c.in_ok-push_number.ensures.whole in
    let m = c.in_ok-push_str-2.ensures.bytes ∙ ap (λ name. string_bytes c.push_str.new.self ++ name) c.register_name.ensures in
    front_if_err c.push_str-3.result (string_bytes c.args.out.now) (signed_decimal c.args.offset ++ codes "(" ++ name_of_register c.args.base) (codes ")") _ _ _ _ refl
    (grown _ _ _ _ _ (grown _ _ _ _ _ h c.in_ok-push_str.ensures.bytes) m) c.push_str-3.ensures.bytes
