-- How much a report can tell: as many objects as the set has, each of its size, and at most so many finishes and lines.
use Rattle.std.proofs.Common.{◌≡◌, ℕ, zero, suc, ◌+◌, ◌*◌, ◌≤◌, ◌<◌, List, [], ◌∷◌, ◌++◌, codes, get_or, Some, None, Result, Ok, Err, IfOk, flat_map, map, length, refl, ap, subst, arith, length-append}
use Rattle.std.proofs.lemmas.List.{length-map}
use Rattle.kernel_model.specs.Effects.{Objects, object_words}
use Rattle.kernel_model.specs.Turns.{Line, Nothing, Start, Stale, RefuseEmpty, RefuseSlots, RefuseRecords, Finish, Found, Failed, Booted}
use Rattle.set_model.specs.Sets.{TaskSet, ObjPart}
use Rattle.set_model.specs.Names.{IsNamed}
use Rattle.task_model.specs.Shape.{HasShape}
use Rattle.report_text.specs.Lines.{line_text}
use Rattle.report_text.specs.Report.{lines_text, end_part}
use Rattle.report_text.specs.Reports.{Report, AreTold, IsReportOf, line_count, all_lines, listed_at, listed_from}
use Rattle.report.specs.declared.report.ReportRefusal.{ReportRefusal}
use Rattle.report.specs.Sizes.{IsShort}
use Rattle.report.proofs.EventsRead.{event_lines}
use Rattle.report.proofs.FeedCuts.{fed_long}
use Rattle.report.proofs.Standing.{as_many}
use Rattle.report.proofs.StateRead.{object_lines, open_line}
use Rattle.report.proofs.Values.{no_object}
use Rattle.report.proofs.WholeReports.{report_lines, state_lines, report_fed}

-- ---- objects

size_at : (parts : List ObjPart) (objects : Objects) (o : ℕ) → AreTold parts objects → o < length objects → length (object_words objects o) ≡ (get_or parts o no_object).size
size_at [] [] o h lt = absurd (omega arith)
size_at [] (w ∷ objects) o h lt = absurd h
size_at (p ∷ parts) [] o h lt = absurd h
size_at (p ∷ parts) (w ∷ objects) zero h lt = h.0
size_at (p ∷ parts) (w ∷ objects) (suc o) h lt = size_at parts objects o h.2 (omega arith)

pub report_shape : (set : TaskSet) (bytes : List ℕ) (result : Result Report ReportRefusal) → IfOk result (λ r. IsReportOf set r bytes) → IfOk result (λ r. HasShape set r.state.objects)
report_shape set bytes (Ok r) h = record { number = as_many set.objects r.state.objects h.state.objects; sizes = λ o lt. size_at set.objects r.state.objects o h.state.objects lt }
report_shape set bytes (Err e) h = tt

-- ---- finishes, and lines

line_long : (set : TaskSet) (n : ℕ) (l : Line) → 2 * length (listed_at n l) ≤ length (line_text set l)
line_long set n Nothing = omega arith
line_long set n (Start core task at) = omega arith
line_long set n (Stale core task lo hi) = omega arith
line_long set n (RefuseEmpty core task lo hi) = omega arith
line_long set n (RefuseSlots core task object) = omega arith
line_long set n (RefuseRecords core task pending spawns) = omega arith
line_long set n (Finish e) = omega arith
line_long set n (Found e) = omega arith
line_long set n Failed = omega arith
line_long set n (Booted None boots) = omega arith
line_long set n (Booted (Some e) boots) = omega arith

lines_long : (set : TaskSet) (n : ℕ) (lines : List Line) → 2 * length (listed_from n lines) ≤ length (lines_text set lines)
lines_long set n [] = omega arith
lines_long set n (l ∷ lines) = omega (arith, line_long set n l, lines_long set (n + line_count l) lines, length-append (line_text set l) (lines_text set lines), length-append (listed_at n l) (listed_from (n + line_count l) lines))

lines_of_event : (set : TaskSet) (l : Line) → length (event_lines set l) ≡ line_count l
lines_of_event set Nothing = refl
lines_of_event set (Start core task at) = refl
lines_of_event set (Stale core task lo hi) = refl
lines_of_event set (RefuseEmpty core task lo hi) = refl
lines_of_event set (RefuseSlots core task object) = refl
lines_of_event set (RefuseRecords core task pending spawns) = refl
lines_of_event set (Finish e) = refl
lines_of_event set (Found e) = refl
lines_of_event set Failed = refl
lines_of_event set (Booted None boots) = refl
lines_of_event set (Booted (Some e) boots) = refl

lines_of_events : (set : TaskSet) (events : List Line) → length (flat_map (event_lines set) events) ≡ all_lines events
lines_of_events set [] = refl
lines_of_events set (l ∷ events) = omega (arith, length-append (event_lines set l) (flat_map (event_lines set) events), lines_of_event set l, lines_of_events set events)

report_short : (set : TaskSet) (named : IsNamed set) (few : set.cores ≤ 8) (bytes : List ℕ) (r : Report) → length bytes ≤ 1048576 → IsReportOf set r bytes → IsShort r
report_short set named few bytes r small h =
    let text = report_fed set named few r bytes h in
    let all = report_lines set named few h.lines r.state h.boots in
    let many : length all ≤ length bytes = subst (λ k. length all ≤ k) (ap length text.text_is) (fed_long all) in
    let events = flat_map (event_lines set) h.lines in
    let objects = object_lines set set.objects r.state.objects in
    let tasks = map (open_line set) r.state.tasks in
    let parts : length all ≡ all_lines h.lines + suc (length objects + (length r.state.tasks + 1)) =
    omega (arith, length-append events (state_lines set named few r.state h.boots), lines_of_events set h.lines, length-append objects (tasks ++ codes "done" ∷ []), length-append tasks (codes "done" ∷ []), length-map r.state.tasks (open_line set)) in
    record {
      listing = omega (arith, ap length h.listing, lines_long set 1 h.lines, ap length h.text, length-append (lines_text set h.lines) (end_part set r.state h.boots), small);
      end_line = omega (arith, h.end_line, parts, many, small);
      tasks = omega (arith, parts, many, small);
    }

pub report_is_short : (set : TaskSet) (named : IsNamed set) (few : set.cores ≤ 8) (bytes : List ℕ) (result : Result Report ReportRefusal) → length bytes ≤ 1048576 → IfOk result (λ r. IsReportOf set r bytes) → IfOk result IsShort
report_is_short set named few bytes (Ok r) small h = report_short set named few bytes r small h
report_is_short set named few bytes (Err e) small h = tt
