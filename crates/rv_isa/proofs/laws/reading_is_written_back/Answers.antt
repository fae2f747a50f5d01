use Rattle.rv_isa.proofs.WordBack.{word_back}
use Rattle.rv_isa.proofs.laws.reading_is_written_back.Goals as goal

pub returns : goal.returns
returns c = λ word i small e. word_back word i small e
