use Rattle.std.proofs.Common.{◌≡◌, ◌+◌, ◌<◌, length, sum_by, ap, arith, refl, sym, ◌∙◌}
use Rattle.set_model.specs.Sets.{object_at}
use Rattle.device_model.specs.Layouts.{slot_place, slots_at, slots_words, words_before}
use Rattle.device_model.specs.Devices.{layout_on}
use Rattle.device_model.proofs.ForCallers.{before-zero}
use Rattle.device_format.specs.Shown.{device_in}
use Rattle.device_format.proofs.Putting.{at_err, front_then, put_at, put_none, put_then}
use Rattle.device_format.proofs.Moving.{object_later}
use Rattle.device_format.proofs.Places.{all_before, object_begins, object_more, objects_left}
use Rattle.device_format.proofs.moved.put_moved_objects.Goals as goal

pub loop-o-init : goal.loop-o-init
loop-o-init g c = record {
  put = λ w h. put_at w (slots_at (layout_on (device_in c.args.set.now c.args.places.now))) 0 _ _ _ _ refl (sym (before-zero c.args.set.now.objects)) (put_none w _ _);
  same = refl;
  never_falls = omega arith;
}

pub loop-o-preserved : goal.loop-o-preserved
loop-o-preserved g c =
    let set = c.args.set.now in
    let l = layout_on (device_in c.args.set.now c.args.places.now) in
    let o = c.loop-o.o in
    let before = c.loop-o.invariant in
    let within : o < length set.objects = omega (arith, c.objects-o-end.ensures.exact) in record {
      put = λ w h. put_then w (slots_at l) (words_before set.objects o) (slot_place l set o 0) (slots_words (object_at set o)) (words_before set.objects (o + 1)) _ _ _
          (before.put w h) (c.in_ok-put_moved_object.ensures.put w (object_later w w l set c.args.state.now o (slots_at l) (words_before set.objects o) _ _ _ _ within c.requires.slots c.requires.behind (before.put w h) before.same (h o within))) (object_begins l set o) (object_more set o within);
      same = c.put_moved_object.ensures.same ∙ before.same;
      never_falls = omega (arith, before.never_falls, c.put_moved_object.ensures.never_falls);
    }

pub returns-in_err-put_moved_object-clause-front : goal.returns-in_err-put_moved_object-clause-front
returns-in_err-put_moved_object-clause-front g c =
    let set = c.args.set.now in
    let l = layout_on (device_in c.args.set.now c.args.places.now) in
    let o = c.loop-o.o in
    let within : o < length set.objects = omega (arith, c.objects-o-end.ensures.exact) in
    λ w h. at_err c.from_residual.result (front_then w (slots_at l) (words_before set.objects o) (slot_place l set o 0) (slots_words (object_at set o)) (sum_by slots_words set.objects) _ _ _
    (c.loop-o.invariant.put w h) (c.in_err-put_moved_object.ensures.front w (object_later w w l set c.args.state.now o (slots_at l) (words_before set.objects o) _ _ _ _ within c.requires.slots c.requires.behind (c.loop-o.invariant.put w h) c.loop-o.invariant.same (h o within))) (object_begins l set o) (objects_left set o within))

pub returns-clause-put : goal.returns-clause-put
returns-clause-put g c =
    let set = c.args.set.now in
    let l = layout_on (device_in c.args.set.now c.args.places.now) in
    let all : c.loop-o.o ≡ length set.objects = omega (arith, c.objects-o-end.ensures.exact, c.loop-o.auto.o-end) in
    λ w h. put_at w (slots_at l) _ (slots_at l) (sum_by slots_words set.objects) _ _ refl (ap (words_before set.objects) all ∙ all_before set.objects) (c.loop-o.invariant.put w h)
