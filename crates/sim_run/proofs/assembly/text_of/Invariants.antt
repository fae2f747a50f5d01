use Rattle.std.proofs.Common.{◌≡◌, take, string_bytes}
use Rattle.sim_run.specs.Replies.{words_text}
use Rattle.sim_run.proofs.assembly.text_of.Given as goal

abbrev pub invariant-loop-word : goal.invariant-loop-word
invariant-loop-word l = string_bytes l.text ≡ words_text (take l.word-index l.words)
