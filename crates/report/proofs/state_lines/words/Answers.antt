use Rattle.std.proofs.Common.{ap, sym, ◌∙◌, option_map, arith}
use Rattle.report.specs.Fields.{values_in}
use Rattle.report.specs.LineReading.{words_shape}
use Rattle.report.proofs.WordRuns.{no_word, word_taken}
use Rattle.report.proofs.state_lines.words.Goals as goal

pub returns-in_err-word : goal.returns-in_err-word
returns-in_err-word c = λ set. rw c.from_residual.ensures
    (no_word set c.args.size c.loop.counter c.loop.words.items c.loop.rest.now (values_in set (words_shape c.args.size) c.args.text.now) (omega (arith, c.loop-test.true))
    (ap (option_map (λ p. (p.0, p.1.now))) (sym c.in_err-word.was) ∙ c.number.ensures) (c.loop.invariant.0 set))

pub loop-preserved : goal.loop-preserved
loop-preserved c = (
  λ set. rw c.push.ensures.items
      (word_taken set c.args.size c.loop.counter c.loop.words.items c.in_ok-word.word c.loop.rest.now c.in_ok-word.left.now (values_in set (words_shape c.args.size) c.args.text.now) (omega (arith, c.loop-test.true))
      (ap (option_map (λ p. (p.0, p.1.now))) (sym c.in_ok-word.was) ∙ c.number.ensures) (c.loop.invariant.0 set)),
  omega (arith, c.push.ensures.len, c.loop.invariant.1),
)
