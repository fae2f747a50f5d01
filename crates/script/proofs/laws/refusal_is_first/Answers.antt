use Rattle.script.specs.Parts.{nothing}
use Rattle.script.proofs.Firsts.{refusal}
use Rattle.script.proofs.laws.refusal_is_first.Goals as goal

pub returns : goal.returns
returns c = λ all e h. refusal all 1 nothing e h
