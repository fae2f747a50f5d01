-- Bytes are read in one way.
use Rattle.std.proofs.Common.{◌≡◌, ℕ, zero, suc, ◌≤◌, ◌<◌, List, [], ◌∷◌, ◌++◌, length, take, drop, sym, ap, ◌∙◌, subst, append_assoc, append-nil, arith, length-append, take-append-drop, length-take, inl, inr}
use Rattle.std.proofs.lemmas.Bool.{cases_lt}
use Rattle.std.proofs.lemmas.Option.{same_Some}
use Rattle.set_model.specs.Sets.{TaskSet}
use Rattle.set_model.specs.Names.{IsNamed}
use Rattle.report_text.specs.Reports.{Report, IsReportOf, AreLines, BeginsReport, IsFirstBadLine, fed}
use Rattle.report.specs.declared.reader.Place.TheVariants.{Done}
use Rattle.report.specs.Readings.{Reading, unread, after_lines}
use Rattle.report.proofs.FeedCuts.{same_lines, all_lines_are, fed_then}
use Rattle.report.proofs.WholeReports.{report_lines, report_fed, report_read}

-- lines with the same text are the same lines
same_rows : (xs ys : List (List ℕ)) → AreLines xs → AreLines ys → fed xs ≡ fed ys → xs ≡ ys
same_rows xs ys h k e =
    let less = all_lines_are xs ys [] h k (append-nil (fed xs) ∙ e) in
    let more = all_lines_are ys xs [] k h (append-nil (fed ys) ∙ sym e) in
    let cut = same_lines xs ys [] [] h k less (append-nil (fed xs) ∙ e ∙ sym (append-nil (fed ys))) in
    go cut.0 cut.1 (omega (arith, less, more))
  where
    go : (zs : List (List ℕ)) → ys ≡ xs ++ zs → length xs ≡ length ys → xs ≡ ys
    go [] f n = sym (f ∙ append-nil xs)
    go (z ∷ zs) f n = absurd (omega (arith, n, ap length f, length-append xs (z ∷ zs)))

pub one_report : (set : TaskSet) (named : IsNamed set) (few : set.cores ≤ 8) (bytes : List ℕ) (r s : Report) → IsReportOf set r bytes → IsReportOf set s bytes → r ≡ s
one_report set named few bytes r s h k =
    let one = report_fed set named few r bytes h in
    let other = report_fed set named few s bytes k in
    let same = same_rows (report_lines set named few h.lines r.state h.boots) (report_lines set named few k.lines s.state k.boots) one.whole other.whole (one.text_is ∙ sym other.text_is) in
    let first = report_read set named few r bytes h in
    let second = report_read set named few s bytes k in
    let ends : record { place = Done; line = first.0; report = r } ≡ record { place = Done; line = second.0; report = s } =
    same_Some _ _ (sym first.1 ∙ ap (after_lines set unread) same ∙ second.1) in
    ap (λ (q : Reading). q.report) ends

front_lines : (n : ℕ) (xs : List (List ℕ)) → AreLines xs → AreLines (take n xs)
front_lines zero [] h = tt
front_lines (suc n) [] h = tt
front_lines zero (x ∷ xs) h = tt
front_lines (suc n) (x ∷ xs) h = (h.0, front_lines n xs h.1)

-- what begins with more lines of a report begins with fewer
fewer : (set : TaskSet) (bytes : List ℕ) (m n : ℕ) → m ≤ n → BeginsReport set n bytes → BeginsReport set m bytes
fewer set bytes m n le b =
    let cut : fed b.lines ≡ fed (take m b.lines) ++ fed (drop m b.lines) = ap fed (sym (take-append-drop m b.lines)) ∙ fed_then (take m b.lines) (drop m b.lines) in
    record {
      lines = take m b.lines;
      whole = front_lines m b.lines b.whole;
      number = omega (arith, length-take m b.lines, b.number, le);
      rest = fed (drop m b.lines) ++ b.rest;
      front = b.front ∙ ap (λ t. t ++ b.rest) cut ∙ append_assoc (fed (take m b.lines)) (fed (drop m b.lines)) b.rest;
      rest_of_report = fed (drop m b.lines) ++ b.rest_of_report;
      report = (b.report.0, subst (IsReportOf set b.report.0) (ap (λ t. t ++ b.rest_of_report) cut ∙ append_assoc (fed (take m b.lines)) (fed (drop m b.lines)) b.rest_of_report) b.report.1);
    }

not_before : (set : TaskSet) (bytes : List ℕ) (m n : ℕ) → IsFirstBadLine set m bytes → IsFirstBadLine set n bytes → m < n → ⊥
not_before set bytes m n h k lt = h.falls (fewer set bytes m k.before (omega (arith, k.counted, lt)) k.stands)

pub one_line : (set : TaskSet) (bytes : List ℕ) (m n : ℕ) → IsFirstBadLine set m bytes → IsFirstBadLine set n bytes → m ≡ n
one_line set bytes m n h k = elim (cases_lt m n) [
  | inl less ↦ absurd (not_before set bytes m n h k less)
  | inr most ↦ elim (cases_lt n m) [
    | inl more ↦ absurd (not_before set bytes n m k h more)
    | inr least ↦ omega (arith, most, least)
  ]
]
