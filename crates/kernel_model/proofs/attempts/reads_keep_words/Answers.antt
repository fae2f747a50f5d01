use Rattle.kernel_model.proofs.Growth.{reads_kept}
use Rattle.kernel_model.proofs.attempts.reads_keep_words.Goals as goal

pub returns : goal.returns
returns c = λ base i history reads h k. reads_kept base i history h reads k
