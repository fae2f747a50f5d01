use Rattle.std.proofs.Common.{◌≡◌, ℕ, ◌<◌, length, slice_index, vec_capacity}
use Rattle.shadow_index.specs.States.{word_of}
use Rattle.commit_writer.proofs.job.Job.take_words.Given as goal

abbrev pub invariant-loop-i : goal.invariant-loop-i
invariant-loop-i l = record {
  long : length l.self.words.items ≡ l.i;
  done : (k : ℕ) → k < l.i → slice_index l.self.words.items k ≡ word_of l.after k;
  room : vec_capacity l.self.words ≡ vec_capacity l.initial.self.words;
  rest : l.self ≡ record l.initial.self { words = l.self.words };
}
