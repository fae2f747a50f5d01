use Rattle.std.proofs.Common.{◌≡◌, ℕ, ◌+◌, ◌-◌, ap, arith, refl, ◌∙◌}
use Rattle.device_model.specs.Words.{Words}
use Rattle.device_model.specs.Formats.{format_word}
use Rattle.device_model.specs.Devices.{Device, layout_on}
use Rattle.device_format.specs.Shown.{device_in}
use Rattle.device_format.proofs.Putting.{at_err, front_more, put_at, put_more, put_none}
use Rattle.device_format.proofs.formatting.put_header.Goals as goal

pub loop-at-init : goal.loop-at-init
loop-at-init g c = record {
  put = put_at (format_word (layout_on (device_in c.args.set.now c.args.places.now)) c.args.set.now) 1 0 1 _ _ _ refl (omega arith) (put_none _ _ _);
  same = refl;
  never_falls = omega arith;
  positive = omega arith;
}

pub loop-at-preserved : goal.loop-at-preserved
loop-at-preserved g c =
    let d : Device = device_in c.args.set.now c.args.places.now in
    let w : Words = format_word (layout_on d) c.args.set.now in
    let at : ℕ = c.loop-at.at in
    let before = c.loop-at.invariant in
    let place : at ≡ 1 + (at - 1) = let p = before.positive in omega (arith, p) in
    let next : at - 1 + 1 ≡ at + 1 - 1 = let p = before.positive in omega (arith, p) in record {
      put = put_at w 1 (at - 1 + 1) 1 (at + 1 - 1) _ _ refl next
          (put_more w 1 (at - 1) at c.header_word.result _ _ _ before.put c.in_ok-write.ensures.written place (c.header_word.ensures.format d c.requires.table refl ∙ ap w place));
      same = c.write.ensures.same ∙ before.same;
      never_falls = omega (arith, before.never_falls, c.write.ensures.never_falls);
      positive = omega arith;
    }

pub returns-in_err-write-clause-front : goal.returns-in_err-write-clause-front
returns-in_err-write-clause-front g c =
    let d : Device = device_in c.args.set.now c.args.places.now in
    let w : Words = format_word (layout_on d) c.args.set.now in
    let at : ℕ = c.loop-at.at in
    let before = c.loop-at.invariant in
    let p = before.positive in
    let place : at ≡ 1 + (at - 1) = omega (arith, p) in
    at_err c.from_residual.result (front_more w 1 (at - 1) at c.header_word.result (c.args.end - 1) _ _ _ before.put c.in_err-write.ensures.either place (c.header_word.ensures.format d c.requires.table refl ∙ ap w place) (omega (arith, p)))
