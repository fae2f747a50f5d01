use Rattle.std.proofs.Common.{◌≡◌, ◌+◌, ◌*◌, ◌≤◌, length, take}
use Rattle.rv_core.specs.Bytes.{words_at}
use Rattle.rv_core.proofs.bytes.words_out.Given as goal

abbrev pub invariant-loop-word : goal.invariant-loop-word
invariant-loop-word l = record {
  place : l.from ≡ l.at + 4 * l.word-index;
  fits : l.at + 4 * length l.into ≤ length l.memory;
  done : take l.word-index l.into ≡ words_at l.memory l.at l.word-index;
}
