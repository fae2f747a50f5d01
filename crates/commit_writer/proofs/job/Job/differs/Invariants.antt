use Rattle.std.proofs.Common.{◌≡◌, ◌-◌, slice_index}
use Rattle.device_model.specs.Commits.{differs}
use Rattle.shadow_index.specs.States.{word_of}
use Rattle.commit_writer.proofs.job.Job.differs.Given as goal

abbrev pub invariant-loop-i : goal.invariant-loop-i
invariant-loop-i l = differs l.records (word_of l.before) (slice_index l.self.words.items) l.i (l.i-end - l.i) ≡ differs l.records (word_of l.before) (slice_index l.self.words.items) l.first (l.i-end - l.first)
