use Rattle.std.proofs.Common.{◌∷◌, [], ◌/◌, ◌%◌, ◌-◌, string_bytes}
use Rattle.std.specs.Char.{digit_char}
use Rattle.rv_isa.specs.Texts.{hexadecimal}
use Rattle.rv_isa.proofs.Fronts.{front_if_err, one_digit_more}
use Rattle.rv_isa.proofs.texts.+push_hexadecimal.Goals as goal

pub returns-clause-cut_off : goal.returns-clause-cut_off
returns-clause-cut_off t c =
    front_if_err c.push.result (string_bytes c.args.out.now) (hexadecimal (c.args.digits - 1) (c.args.n / 16)) (digit_char (c.args.n % 16) ∷ []) (hexadecimal c.args.digits c.args.n) _ _ _
    (one_digit_more c.args.digits c.args.n c.if-digits-eq0.false) c.in_ok-push_hexadecimal.ensures.whole c.push.ensures.bytes
