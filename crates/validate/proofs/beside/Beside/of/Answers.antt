use Rattle.std.proofs.Common.{◌<◌, get_or, length, ◌∙◌, arith}
use Rattle.std.proofs.lemmas.List.{length-set}
use Rattle.validate.proofs.Pins.{copied_more, intervals_more, no_view}
use Rattle.validate.proofs.beside.Beside.of.Goals as goal

pub loop-i-preserved : goal.loop-i-preserved
loop-i-preserved c =
    let xs = c.args.others.now in
    let i = c.loop-i.i in
    let few : i < 7 = omega (arith, c.loop-i-test.true, c.requires) in
    let inside : i < length c.loop-i.intervals = omega (arith, few, c.loop-i.invariant.long) in
    record {
      long = length-set c.loop-i.intervals i (get_or xs i no_view).interval ∙ c.loop-i.invariant.long;
      intervals = intervals_more xs c.loop-i.intervals i no_view c.loop-i-test.true inside c.loop-i.invariant.intervals;
      pins = c.add_pin-copies.ensures.put ∙ copied_more xs _ i no_view c.loop-i-test.true c.loop-i.invariant.pins;
      few = omega (arith, c.add_pin-copies.ensures.few, c.loop-i.invariant.few);
    }
