use Rattle.std.proofs.Common.{arith, add-one}
use Rattle.std.proofs.lemmas.List.{take_more_set}
use Rattle.std.proofs.lemmas.Grind.{common_steps}
use Rattle.rv_core.proofs.Loading.{words_at-suc}
use Rattle.rv_core.proofs.bytes.words_out.Goals as goal

pub loop-word-preserved : goal.loop-word-preserved
loop-word-preserved c = record {
  place = omega arith;
  fits = grind (arith, common_steps);
  done =
      let more = words_at-suc c.args.memory.now c.args.at c.loop-word.word-index in
      let place = c.loop-word.invariant.place in
      let first = c.loop-word.invariant.done in
      let value = c.word_in.ensures in
      rw (add-one c.loop-word.word-index, more, ← place, ← value, ← first, ← add-one c.loop-word.word-index) (take_more_set _ _ _ (omega arith));
}
