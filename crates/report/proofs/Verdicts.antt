-- What a reading that ends says of the bytes: they are a report, or none from this line on.
use Rattle.std.proofs.Common.{◌≡◌, ℕ, ◌+◌, ◌-◌, ◌^◌, ◌≤◌, ◌<◌, List, [], ◌∷◌, ◌++◌, Option, Some, None, Result, Ok, Err, IfOk, length, refl, sym, ap, ◌∙◌, subst, append_assoc, append-nil, arith, length-append}
use Rattle.std.specs.Option.{option_and_then}
use Rattle.std.proofs.lemmas.Option.{none-some, same_Some}
use Rattle.set_model.specs.Sets.{TaskSet}
use Rattle.set_model.specs.Names.{IsNamed}
use Rattle.report_text.specs.Reports.{Report, IsReportOf, IsReport, AreLines, BeginsReport, IsFirstBadLine, fed}
use Rattle.report.specs.declared.reader.Place.TheVariants.{Done}
use Rattle.report.specs.declared.report.ReportRefusal.{ReportRefusal}
use Rattle.report.specs.declared.report.ReportRefusal.TheVariants.{Bad}
use Rattle.report.specs.Readings.{Reading, unread, after_line, after_lines, LeavesIf, Ends}
use Rattle.report.proofs.FeedCuts.{IsLine, lines_more, fed_more, same_line, no_line, same_lines, all_lines_are, fed_long}
use Rattle.report.proofs.Runs.{stands, counted, whole_report, go_on}
use Rattle.report.proofs.WholeReports.{report_lines, report_fed, report_read}

-- so far these lines were read, and this is left
pub record HasTaken (set : TaskSet) (bytes rest : List ℕ) (r : Reading) : Type 0 where
  pub lines : List (List ℕ)
  pub whole : AreLines lines
  pub front : bytes ≡ fed lines ++ rest
  pub taken : after_lines set unread lines ≡ Some r

pub nothing_taken_yet : (set : TaskSet) (bytes : List ℕ) → HasTaken set bytes bytes unread
nothing_taken_yet set bytes = record { lines = []; whole = tt; front = refl; taken = refl }

then_one : (set : TaskSet) (s r q : Reading) (lines : List (List ℕ)) (line : List ℕ) → after_lines set s lines ≡ Some r → after_line set r line ≡ Some q → after_lines set s (lines ++ line ∷ []) ≡ Some q
then_one set s r q [] line e f = ap (λ x. after_lines set x (line ∷ [])) (same_Some s r e) ∙ ap (option_and_then (λ x. Some x)) f
then_one set s r q (l ∷ lines) line e f = go (λ t g. then_one set t r q lines line g f) (after_line set s l) e
  where
    go : ((t : Reading) → after_lines set t lines ≡ Some r → after_lines set t (lines ++ line ∷ []) ≡ Some q)
        → (o : Option Reading) → option_and_then (λ t. after_lines set t lines) o ≡ Some r → option_and_then (λ t. after_lines set t (lines ++ line ∷ [])) o ≡ Some q
    go later None e = absurd (none-some r e)
    go later (Some t) e = later t e

pub one_taken : (set : TaskSet) (bytes rest line left : List ℕ) (r q : Reading) → HasTaken set bytes rest r → rest ≡ line ++ 10 ∷ left → IsLine line → after_line set r line ≡ Some q → HasTaken set bytes left q
one_taken set bytes rest line left r q h cut is e = record {
  lines = h.lines ++ line ∷ [];
  whole = lines_more h.lines (line ∷ []) h.whole (is, tt);
  front = h.front ∙ ap (λ t. fed h.lines ++ t) (cut ∙ sym (append_assoc line (10 ∷ []) left)) ∙ sym (append_assoc (fed h.lines) (line ++ 10 ∷ []) left) ∙ ap (λ t. t ++ left) (sym (fed_more h.lines line));
  taken = then_one set unread r q h.lines line h.taken e;
}

-- where a line can't stand, no more lines can
stuck : (set : TaskSet) (s r : Reading) (lines more : List (List ℕ)) (line : List ℕ) → after_lines set s lines ≡ Some r → after_line set r line ≡ None → after_lines set s (lines ++ line ∷ more) ≡ None
stuck set s r [] more line e f = ap (λ x. after_lines set x (line ∷ more)) (same_Some s r e) ∙ ap (option_and_then (λ x. after_lines set x more)) f
stuck set s r (l ∷ lines) more line e f = go (λ t g. stuck set t r lines more line g f) (after_line set s l) e
  where
    go : ((t : Reading) → after_lines set t lines ≡ Some r → after_lines set t (lines ++ line ∷ more) ≡ None)
        → (o : Option Reading) → option_and_then (λ t. after_lines set t lines) o ≡ Some r → option_and_then (λ t. after_lines set t (lines ++ line ∷ more)) o ≡ None
    go later None e = refl
    go later (Some t) e = later t e

last_line : (xs ys : List (List ℕ)) → AreLines (xs ++ ys) → AreLines ys
last_line [] ys h = h
last_line (x ∷ xs) ys h = last_line xs ys h.1

-- lines that begin a report, one more than were read
record HasOneMore (lines : List (List ℕ)) (rest : List ℕ) (longer : List (List ℕ)) : Type 0 where
  line : List ℕ
  left : List ℕ
  is_line : IsLine line
  longer_is : longer ≡ lines ++ line ∷ []
  rest_is : rest ≡ line ++ 10 ∷ left

one_more : (lines longer : List (List ℕ)) (rest left : List ℕ) → AreLines lines → AreLines longer → length longer ≡ length lines + 1 → fed lines ++ rest ≡ fed longer ++ left → HasOneMore lines rest longer
one_more lines longer rest left h k n e =
    let cut = same_lines lines longer rest left h k (omega (arith, n)) e in
    go cut.0 cut.1 cut.2
  where
    go : (zs : List (List ℕ)) → longer ≡ lines ++ zs → rest ≡ fed zs ++ left → HasOneMore lines rest longer
    go [] is f = absurd (omega (arith, n, ap length is, length-append lines []))
    go (z ∷ []) is f = record {
      line = z;
      left = left;
      is_line = (last_line lines (z ∷ []) (subst AreLines is k)).0;
      longer_is = is;
      rest_is = f ∙ append_assoc (z ++ 10 ∷ []) [] left ∙ append_assoc z (10 ∷ []) left;
    }
    go (z ∷ y ∷ zs) is f = absurd (omega (arith, n, ap length is, length-append lines (z ∷ y ∷ zs)))

abbrev error_or : {T E : Type 0} → E → Result T E → E
error_or x (Ok y) = x
error_or x (Err y) = y

-- an answer that hands a refusal on
pub handed_on : {T E : Type 0} (result : Result T E) (x y z : E) → result ≡ Err y → y ≡ x → result ≡ Err z → x ≡ z
handed_on result x y z is same e = sym same ∙ ap (error_or y) (sym is ∙ e)

module _ (set : TaskSet) (named : IsNamed set) (few : set.cores ≤ 8) where
  -- lines that begin a report, and those behind them, are read to its end
  record IsReadOn (lines : List (List ℕ)) (rest : List ℕ) : Type 0 where
    more : List (List ℕ)
    whole : AreLines more
    rest_is : rest ≡ fed more
    number : ℕ
    report : Report
    read : after_lines set unread (lines ++ more) ≡ Some (record { place = Done; line = number; report = report })

  read_on : (lines : List (List ℕ)) (rest : List ℕ) → AreLines lines → IsReport set (fed lines ++ rest) → IsReadOn lines rest
  read_on lines rest h (r, is) =
      let all = report_lines set named few is.lines r.state is.boots in
      let text = report_fed set named few r (fed lines ++ rest) is in
      let end = report_read set named few r (fed lines ++ rest) is in
      let cut = same_lines lines all rest [] h text.whole (all_lines_are lines all rest h text.whole (sym text.text_is)) (sym text.text_is ∙ sym (append-nil (fed all))) in
      record {
        more = cut.0;
        whole = last_line lines cut.0 (subst AreLines cut.1 text.whole);
        rest_is = cut.2 ∙ append-nil (fed cut.0);
        number = end.0;
        report = r;
        read = ap (after_lines set unread) (sym cut.1) ∙ end.1;
      }

  -- no report goes on from lines that were read with a line that can't stand
  no_report : (lines : List (List ℕ)) (rest line left : List ℕ) (r : Reading) → AreLines lines → after_lines set unread lines ≡ Some r → rest ≡ line ++ 10 ∷ left → IsLine line → after_line set r line ≡ None
      → IsReadOn lines rest → ⊥
  no_report lines rest line left r h taken cut is none on = go on.more on.whole on.rest_is on.read
    where
      go : (more : List (List ℕ)) → AreLines more → rest ≡ fed more → after_lines set unread (lines ++ more) ≡ Some (record { place = Done; line = on.number; report = on.report }) → ⊥
      go [] k f read = let l : length (line ++ 10 ∷ left) ≡ 0 = ap length (sym cut ∙ f) in omega (arith, l, length-append line (10 ∷ left))
      go (m ∷ more) k f read =
          let same = same_line line m left (fed more) is k.0 (sym cut ∙ f ∙ append_assoc m (10 ∷ []) (fed more)) in
          none-some _ (sym (stuck set unread r lines more m taken (ap (after_line set r) (sym same.0) ∙ none)) ∙ read)

  begins : (bytes rest : List ℕ) (r : Reading) (h : HasTaken set bytes rest r) → BeginsReport set (length h.lines) bytes
  begins bytes rest r h =
      let on = go_on set h.lines r (stands set h.lines r h.taken) in
      record { lines = h.lines; whole = h.whole; number = refl; rest = rest; front = h.front; rest_of_report = on.0; report = on.1 }

  number_of_line : (bytes rest : List ℕ) (r : Reading) (h : HasTaken set bytes rest r) → r.line ≡ length h.lines + 1
  number_of_line bytes rest r h = omega (arith, counted set h.lines r (stands set h.lines r h.taken))

  pub line_is_small : (bytes rest : List ℕ) (r : Reading) → HasTaken set bytes rest r → length bytes ≤ 1048576 → r.line < 2 ^ 32 - 1
  line_is_small bytes rest r h few_bytes = omega (arith, number_of_line bytes rest r h, fed_long h.lines, ap length h.front, length-append (fed h.lines) rest, few_bytes)

  -- ---- the three ends

  pub accepted : (bytes rest : List ℕ) (r : Reading) → HasTaken set bytes rest r → r.place ≡ Done → rest ≡ [] → IsReportOf set r.report bytes
  accepted bytes rest r h done none =
      subst (IsReportOf set r.report) (sym (h.front ∙ ap (λ t. fed h.lines ++ t) none ∙ append-nil (fed h.lines))) (whole_report set h.lines r (stands set h.lines r h.taken) done)

  pub refused_line : (bytes rest line left : List ℕ) (r : Reading) → HasTaken set bytes rest r → rest ≡ line ++ 10 ∷ left → IsLine line → after_line set r line ≡ None → IsFirstBadLine set r.line bytes
  refused_line bytes rest line left r h cut is none = record {
    refused = λ report. no_report h.lines rest line left r h.whole h.taken cut is none (read_on h.lines rest h.whole (subst (IsReport set) h.front report));
    before = length h.lines;
    counted = number_of_line bytes rest r h;
    stands = begins bytes rest r h;
    falls = λ b.
        let more = one_more h.lines b.lines rest b.rest h.whole b.whole (b.number ∙ number_of_line bytes rest r h) (sym h.front ∙ b.front) in
        let same = same_line line more.line left more.left is more.is_line (sym cut ∙ more.rest_is) in
        let on = read_on b.lines b.rest_of_report b.whole b.report in
        let fails : after_lines set unread (h.lines ++ more.line ∷ on.more) ≡ None = stuck set unread r h.lines on.more more.line h.taken (ap (after_line set r) (sym same.0) ∙ none) in
        let all : b.lines ++ on.more ≡ h.lines ++ more.line ∷ on.more = ap (λ ls. ls ++ on.more) more.longer_is ∙ append_assoc h.lines (more.line ∷ []) on.more in
        none-some _ (sym fails ∙ ap (after_lines set unread) (sym all) ∙ on.read);
  }

  pub refused_end : (bytes rest : List ℕ) (r : Reading) → HasTaken set bytes rest r → IsLine rest → (r.place ≡ Done → rest ≡ [] → ⊥) → IsFirstBadLine set r.line bytes
  refused_end bytes rest r h is unended = record {
    refused = λ report.
        let on = read_on h.lines rest h.whole (subst (IsReport set) h.front report) in
        ends on.more on.rest_is on.number on.report on.read;
    before = length h.lines;
    counted = number_of_line bytes rest r h;
    stands = begins bytes rest r h;
    falls = λ b.
        let more = one_more h.lines b.lines rest b.rest h.whole b.whole (b.number ∙ number_of_line bytes rest r h) (sym h.front ∙ b.front) in
        no_line rest more.line more.left is more.rest_is;
  }
    where
      ends : (more : List (List ℕ)) → rest ≡ fed more → (n : ℕ) (report : Report) → after_lines set unread (h.lines ++ more) ≡ Some (record { place = Done; line = n; report = report }) → ⊥
      ends [] f n report read =
          let same : r ≡ record { place = Done; line = n; report = report } = same_Some r _ (sym h.taken ∙ ap (after_lines set unread) (sym (append-nil h.lines)) ∙ read) in
          unended (ap (λ q. q.place) same) f
      ends (m ∷ more) f n report read = no_line rest m (fed more) is (f ∙ append_assoc m (10 ∷ []) (fed more))

  -- ---- what a call answers

  pub bad_line : (bytes rest line left : List ℕ) (r q : Reading) (error : ReportRefusal) → HasTaken set bytes rest r → rest ≡ line ++ 10 ∷ left → IsLine line → LeavesIf (Err error) (after_line set r line) r.line q
      → (n : ℕ) → error ≡ Bad n → IsFirstBadLine set n bytes
  bad_line bytes rest line left r q error h cut is told n e =
      let so : (n ≡ r.line) × (after_line set r line ≡ None) = subst (λ x. LeavesIf (Err x) (after_line set r line) r.line q) e told in
      subst (λ k. IsFirstBadLine set k bytes) (sym so.0) (refused_line bytes rest line left r h cut is so.1)

  pub read_to_end : (bytes rest : List ℕ) (r : Reading) (result : Result Report ReportRefusal) → HasTaken set bytes rest r → Ends result r rest → IfOk result (λ report. IsReportOf set report bytes)
  read_to_end bytes rest r (Ok report) h (done, none, same) = subst (λ x. IsReportOf set x bytes) (sym same) (accepted bytes rest r h done none)
  read_to_end bytes rest r (Err error) h told = tt

  pub bad_end : (bytes rest : List ℕ) (r : Reading) (result : Result Report ReportRefusal) → HasTaken set bytes rest r → IsLine rest → Ends result r rest → (n : ℕ) → result ≡ Err (Bad n) → IsFirstBadLine set n bytes
  bad_end bytes rest r result h is told n e =
      let so : (n ≡ r.line) × (r.place ≡ Done → rest ≡ [] → ⊥) = subst (λ x. Ends x r rest) e told in
      subst (λ k. IsFirstBadLine set k bytes) (sym so.0) (refused_end bytes rest r h is so.1)
