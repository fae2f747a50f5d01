use Rattle.device_model.proofs.LaidOut.{root-word, few_pages}
use Rattle.device_model.proofs.places.root_is_word.Goals as goal

pub returns-clause-root : goal.returns-clause-root
returns-clause-root g = λ d. root-word d.kind d.set

pub returns-clause-pages : goal.returns-clause-pages
returns-clause-pages g = λ d. few_pages d.kind d.set
