use Rattle.std.proofs.Common.{◌≡◌, ◌*◌, ◌≤◌, length, take}
use Rattle.rv_core.specs.Task.{loaded}
use Rattle.rv_core.proofs.bytes.load_code.Given as goal

abbrev pub invariant-loop-word : goal.invariant-loop-word
invariant-loop-word l = record {
  place : l.at ≡ 4 * l.word-index;
  fits : 4 * length l.code ≤ length l.memory;
  begun : l.memory ≡ loaded (take l.word-index l.code) (length l.memory);
}
