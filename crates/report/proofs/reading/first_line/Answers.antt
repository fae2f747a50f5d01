use Rattle.std.proofs.Common.{sym, ap, ◌∙◌, ◌-◌, ◌+◌, ◌≤◌, ◌++◌, ◌∷◌, length, drop, take, take_all, length-drop, eqb, ltb, arith}
use Rattle.std.proofs.lemmas.Bool.{ltb-true}
use Rattle.std.proofs.lemmas.Option.{cond_some}
use Rattle.std.specs.List.{position_or_len}
use Rattle.plain_text.proofs.ForCallers.{nowhere}
use Rattle.report.proofs.FeedCuts.{feed_none, feed_some}
use Rattle.report.proofs.reading.first_line.Goals as goal

pub returns-in_err-end : goal.returns-in_err-end
returns-in_err-end c = rw c.from_residual.ensures (feed_none c.args.bytes.now (nowhere (λ b. eqb b 10) c.args.bytes.now (sym c.feed_at.ensures.at ∙ c.in_err-end.was)))

pub returns : goal.returns
returns c =
    let bytes = c.args.bytes.now in
    let end = c.in_ok-end.end in
    let pol = position_or_len (λ b. eqb b 10) bytes in
    let at = cond_some (ltb pol (length bytes)) pol end (sym c.feed_at.ensures.at ∙ c.in_ok-end.was) in
    let so = feed_some bytes end at.1 (omega (arith, ltb-true pol (length bytes) at.0, at.1)) in
    let all : length (drop (end + 1) bytes) ≤ length bytes - (end + 1) = omega (arith, length-drop (end + 1) bytes) in
    (so.0, so.1 ∙ ap (λ t. take end bytes ++ 10 ∷ t) (sym (take_all (length bytes - (end + 1)) (drop (end + 1) bytes) all)))
