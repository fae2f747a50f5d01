use Rattle.rv_isa.proofs.ReadWord.{read_word}
use Rattle.rv_isa.proofs.laws.word_is_read_back.Goals as goal

pub returns : goal.returns
returns c = λ i ok. read_word i ok
