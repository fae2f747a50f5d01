use Rattle.std.proofs.Common.{sym, ◌∙◌, ◌-◌, drop, length, take, arith}
use Rattle.std.proofs.lemmas.Grind.{common_steps}
use Rattle.plain_text.proofs.Cuts.{no_word, word_found, no_parts, parts_found}
use Rattle.plain_text.proofs.words.first_word.Goals as goal

pub returns-in_err-rest-clause-words : goal.returns-in_err-rest-clause-words
returns-in_err-rest-clause-words c = rw c.from_residual.ensures (no_word c.args.bytes.now (sym c.first_other.ensures ∙ c.in_err-rest.was))

pub returns-clause-words : goal.returns-clause-words
returns-clause-words c =
    let rest = take (length c.args.bytes.now - c.in_ok-rest.field-0) (drop c.in_ok-rest.field-0 c.args.bytes.now) in
    let found = word_found c.args.bytes.now rest c.in_ok-rest.field-0 c.unwrap_or.result (sym c.first_other.ensures ∙ c.in_ok-rest.was) (grind (arith, common_steps)) (cc) in
    rw (c.split_at.ensures.front, c.split_at.ensures.back) found

pub returns-in_err-rest-clause-parts : goal.returns-in_err-rest-clause-parts
returns-in_err-rest-clause-parts c = rw c.from_residual.ensures (no_parts c.args.bytes.now (sym c.first_other.ensures ∙ c.in_err-rest.was))

pub returns-clause-parts : goal.returns-clause-parts
returns-clause-parts c =
    let rest = take (length c.args.bytes.now - c.in_ok-rest.field-0) (drop c.in_ok-rest.field-0 c.args.bytes.now) in
    let found = parts_found c.args.bytes.now rest c.in_ok-rest.field-0 c.unwrap_or.result (sym c.first_other.ensures ∙ c.in_ok-rest.was) (grind (arith, common_steps)) (cc) in
    rw (c.split_at.ensures.front, c.split_at.ensures.back) found
