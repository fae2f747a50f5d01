use Rattle.std.proofs.Common.{◌≡◌, ◌+◌, ◌*◌, ◌%◌, ◌≤◌, length, drop}
use Rattle.rv_core.specs.Machine.{put_words}
use Rattle.task_model.proofs.part.give_words.Given as goal

abbrev pub invariant-loop-word : goal.invariant-loop-word
invariant-loop-word l = record {
  place : l.place ≡ l.at + 4 * l.word-index;
  aligned : l.at % 4 ≡ 0;
  fits : l.at + 4 * length l.words ≤ length l.machine.memory;
  room : length l.machine.memory ≡ length l.initial.machine.memory;
  rest : record l.machine { memory = put_words l.machine.memory l.place (drop l.word-index l.words) } ≡ record l.initial.machine { memory = put_words l.initial.machine.memory l.at l.words };
}
