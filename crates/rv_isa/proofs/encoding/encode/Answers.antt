use Rattle.std.proofs.Common.{◌∙◌, ap}
use Rattle.rv_isa.proofs.WordBack.{word_back}
use Rattle.rv_isa.proofs.ReadWord.{read_word}
use Rattle.rv_isa.specs.Table.{instruction_of}
use Rattle.rv_isa.proofs.encoding.encode.Goals as goal

pub returns-clause-again : goal.returns-clause-again
returns-clause-again c = ap instruction_of c.word.ensures ∙ read_word _ c.requires

pub returns-clause-only : goal.returns-clause-only
returns-clause-only c = λ w small h. c.word.ensures ∙ (word_back w _ small h).0
