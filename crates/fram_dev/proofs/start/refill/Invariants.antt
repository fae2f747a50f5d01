use Rattle.std.proofs.Common.{◌≡◌, take, vec_capacity}
use Rattle.fram_dev.proofs.start.refill.Given as goal

abbrev pub invariant-loop-word : goal.invariant-loop-word
invariant-loop-word l = record {
  same : l.given.items ≡ take l.word-index l.words;
  room : vec_capacity l.given ≡ vec_capacity l.initial.given;
}
