use Rattle.std.proofs.Common.{map, sym, ◌∙◌, ap, ◌++◌, ◌∷◌, []}
use Rattle.std.proofs.lemmas.List.{map_push}
use Rattle.std.proofs.lemmas.Result.{err_from_is_err_and}
use Rattle.task_image.specs.Unpacked.{object}
use Rattle.task_image.proofs.Several.{several_more, several_stop, several_done}
use Rattle.task_image.proofs.parts.objects.Goals as goal

pub returns-in_err-object : goal.returns-in_err-object
returns-in_err-object c =
    let p = err_from_is_err_and c.from_residual.result c.from_residual.ensures.1 in
    let read = rw c.loop.invariant.taken at c.in_err-object.ensures.reading in
    rw (p.1, p.2) (several_stop c.in_err-object.field-0.0 c.args.n c.loop.counter (λ before. object (map (λ o. o.name) before)) c.loop.objects c.loop.cursor _ c.loop-test.true read c.loop.invariant.so_far)

pub loop-preserved : goal.loop-preserved
loop-preserved c =
    let o = c.in_ok-object.field-0 in
    let read = rw c.loop.invariant.taken at c.in_ok-object.ensures.reading in
    rw c.in_ok-push.ensures (record {
      taken = c.in_ok-object.ensures.taken ∙ ap (λ names. names ++ o.name ∷ []) c.loop.invariant.taken ∙ sym (map_push (λ p. p.name) c.loop.objects o);
      so_far = several_more c.args.n c.loop.counter (λ before. object (map (λ p. p.name) before)) c.loop.objects c.loop.cursor c.object.new.cursor o _ c.loop-test.true read c.loop.invariant.so_far;
    })

pub returns : goal.returns
returns c = several_done c.args.n c.loop.counter (λ before. object (map (λ o. o.name) before)) c.loop.objects c.loop.cursor _ c.loop-test.false c.loop.invariant.so_far
