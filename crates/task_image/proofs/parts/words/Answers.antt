use Rattle.std.proofs.Common.{true}
use Rattle.std.proofs.lemmas.Result.{err_from_is_err_and}
use Rattle.task_image.specs.Reading.{number}
use Rattle.task_image.proofs.Several.{several_more, several_stop, several_done}
use Rattle.task_image.proofs.parts.words.Goals as goal

pub returns-in_err-any_word : goal.returns-in_err-any_word
returns-in_err-any_word c =
    let p = err_from_is_err_and c.from_residual.result c.from_residual.ensures.1 in
    rw (p.1, p.2) (several_stop c.in_err-any_word.field-0.0 c.args.n c.loop.counter (λ _. number 4 (λ _. true)) c.loop.words c.loop.cursor _ c.loop-test.true c.in_err-any_word.ensures c.loop.invariant)

pub loop-preserved : goal.loop-preserved
loop-preserved c =
    rw c.in_ok-push.ensures (several_more c.args.n c.loop.counter (λ _. number 4 (λ _. true)) c.loop.words c.loop.cursor c.any_word.new.self c.in_ok-any_word.field-0 _ c.loop-test.true c.in_ok-any_word.ensures c.loop.invariant)

pub returns : goal.returns
returns c = several_done c.args.n c.loop.counter (λ _. number 4 (λ _. true)) c.loop.words c.loop.cursor _ c.loop-test.false c.loop.invariant
