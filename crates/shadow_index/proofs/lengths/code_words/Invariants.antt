use Rattle.std.proofs.Common.{◌≡◌, ◌≤◌, ◌*◌, length, sum_by, take}
use Rattle.shadow_index.proofs.lengths.code_words.Given as goal

abbrev pub invariant-loop-p : goal.invariant-loop-p
invariant-loop-p l = record {
  sum : l.words ≡ sum_by (λ p. length p.code) (take l.p l.set.programs);
  few : l.words ≤ 1024 * l.p;
}
