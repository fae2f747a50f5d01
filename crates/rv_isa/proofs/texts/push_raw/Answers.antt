use Rattle.std.proofs.Common.{◌++◌, [], codes, string_bytes, sym, ap}
use Rattle.std.proofs.lemmas.List.{append-nil}
use Rattle.rv_isa.specs.Texts.{hexadecimal}
use Rattle.rv_isa.proofs.Fronts.{part_if_err}
use Rattle.rv_isa.proofs.texts.push_raw.Goals as goal

pub returns-clause-cut_off : goal.returns-clause-cut_off
returns-clause-cut_off c =
    part_if_err c.push_hexadecimal.result (string_bytes c.args.out.now) (codes ".word 0x") (hexadecimal 8 c.args.word) [] _ (string_bytes c.push_str.new.self) _
    (ap (λ digits. codes ".word 0x" ++ digits) (sym (append-nil (hexadecimal 8 c.args.word)))) c.in_ok-push_str.ensures.bytes c.push_hexadecimal.ensures.cut_off
