use Rattle.std.proofs.Common.{map, sym, ◌∙◌, ap, ◌++◌, ◌∷◌, []}
use Rattle.std.proofs.lemmas.List.{map_push}
use Rattle.std.proofs.lemmas.Result.{err_from_is_err_and}
use Rattle.task_image.specs.Unpacked.{program}
use Rattle.task_image.proofs.Several.{several_more, several_stop, several_done}
use Rattle.task_image.proofs.parts.programs.Goals as goal

pub returns-in_err-program : goal.returns-in_err-program
returns-in_err-program c =
    let p = err_from_is_err_and c.from_residual.result c.from_residual.ensures.1 in
    let read = rw c.loop.invariant.taken at c.in_err-program.ensures.reading in
    rw (p.1, p.2) (several_stop c.in_err-program.field-0.0 c.args.n c.loop.counter (λ before. program c.args.memory (map (λ o. o.name) before)) c.loop.programs c.loop.cursor _ c.loop-test.true read c.loop.invariant.so_far)

pub loop-preserved : goal.loop-preserved
loop-preserved c =
    let o = c.in_ok-program.field-0 in
    let read = rw c.loop.invariant.taken at c.in_ok-program.ensures.reading in
    rw c.in_ok-push.ensures (record {
      taken = c.in_ok-program.ensures.taken ∙ ap (λ names. names ++ o.name ∷ []) c.loop.invariant.taken ∙ sym (map_push (λ p. p.name) c.loop.programs o);
      so_far = several_more c.args.n c.loop.counter (λ before. program c.args.memory (map (λ p. p.name) before)) c.loop.programs c.loop.cursor c.program.new.cursor o _ c.loop-test.true read c.loop.invariant.so_far;
    })

pub returns : goal.returns
returns c = several_done c.args.n c.loop.counter (λ before. program c.args.memory (map (λ o. o.name) before)) c.loop.programs c.loop.cursor _ c.loop-test.false c.loop.invariant.so_far
