use Rattle.std.proofs.Common.{ap, ◌∙◌, length, unwrap_or}
use Rattle.report.specs.Fields.{is_space}
use Rattle.report.proofs.Values.{position-or}
use Rattle.report.proofs.fields.word_end.Goals as goal

pub returns-clause-at : goal.returns-clause-at
returns-clause-at c = c.unwrap_or.ensures ∙ ap (λ o. unwrap_or o (length c.args.text.now)) c.space_at.ensures.at ∙ position-or is_space c.args.text.now
