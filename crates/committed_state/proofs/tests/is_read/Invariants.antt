use Rattle.std.proofs.Common.{◌≡◌, ℕ, ◌<◌, false}
use Rattle.std.specs.Prelude.{slice_index}
use Rattle.device_model.specs.IndexWords.{is_faulty}
use Rattle.shadow_index.specs.States.{HasTaken, taken_word}
use Rattle.committed_state.proofs.tests.is_read.Given as goal

abbrev pub invariant-loop-i : goal.invariant-loop-i
invariant-loop-i l = record {
  taken : HasTaken l.set l.i l.into;
  words : (k : ℕ) → k < l.i → taken_word l.into k ≡ slice_index l.words k;
  faultless : (k : ℕ) → k < l.i → is_faulty l.set (slice_index l.words) k (slice_index l.words k) ≡ false;
}
