use Rattle.std.proofs.Common.{arith}
use Rattle.rv_core.proofs.Loading.{load_step}
use Rattle.rv_core.proofs.bytes.load_code.Goals as goal

pub loop-word-preserved : goal.loop-word-preserved
loop-word-preserved c = record {
  place = omega arith;
  fits = omega arith;
  begun = load_step _ _ _ _ _ c.loop-word.invariant.place c.loop-word-test.true c.loop-word.invariant.fits (omega arith) c.loop-word.invariant.begun c.put_word_in.ensures;
}
