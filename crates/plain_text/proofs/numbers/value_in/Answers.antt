use Rattle.std.proofs.Common.{◌≡◌, true, arith}
use Rattle.plain_text.specs.Numbers.{is_numeral}
use Rattle.plain_text.proofs.Digits.{digit_more}
use Rattle.plain_text.proofs.numbers.value_in.Goals as goal

pub overflow_mul-total : goal.overflow_mul-total
overflow_mul-total c =
    let e : is_numeral c.args.radix c.args.most c.args.digits.now ≡ true = grind arith in
    let more = digit_more c.args.radix c.args.most c.loop-d.d-index c.args.digits.now e c.requires.radix c.requires.most c.loop-d-test.true in
    rw (c.from.ensures, c.loop-d.invariant) (omega (arith, more.0, more.1))

pub overflow_add-total : goal.overflow_add-total
overflow_add-total c =
    let e : is_numeral c.args.radix c.args.most c.args.digits.now ≡ true = grind arith in
    let more = digit_more c.args.radix c.args.most c.loop-d.d-index c.args.digits.now e c.requires.radix c.requires.most c.loop-d-test.true in
    rw (c.from.ensures, c.loop-d.invariant, c.from-in-loop-d.ensures, c.digit_value.ensures) (omega (arith, more.0, more.1))

pub loop-d-preserved : goal.loop-d-preserved
loop-d-preserved c =
    let e : is_numeral c.args.radix c.args.most c.args.digits.now ≡ true = grind arith in
    let more = digit_more c.args.radix c.args.most c.loop-d.d-index c.args.digits.now e c.requires.radix c.requires.most c.loop-d-test.true in
    rw (c.from.ensures, c.loop-d.invariant, c.from-in-loop-d.ensures, c.digit_value.ensures) more.0
