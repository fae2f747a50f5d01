-- Readings over many lines: what they have read begins a report, and every report is read to its end.
use Rattle.std.proofs.Common.{◌≡◌, ℕ, zero, suc, ◌+◌, ◌⊎◌, Bool, true, false, cond, List, [], ◌∷◌, ◌++◌, Some, option_map, flat_map, length, map, refl, sym, ap, ◌∙◌, subst, append_assoc, append-nil, arith, ltb, inl, inr, length-append, lit<}
use Rattle.std.specs.Option.{option_and_then}
use Rattle.std.specs.List.{AllByRecursion}
use Rattle.std.proofs.lemmas.Bool.{ltb-true, ltb-false}
use Rattle.std.proofs.lemmas.Option.{none-some, same_Some, option_and_then_some, cond_some}
use Rattle.kernel_model.specs.Effects.{Objects}
use Rattle.kernel_model.specs.Replay.{DeviceState}
use Rattle.set_model.specs.Sets.{TaskSet, ObjPart, object_at}
use Rattle.set_model.specs.Limits.{IsWord}
use Rattle.report_text.specs.Lines.{end_text, open_text, done_text}
use Rattle.report_text.specs.Report.{lines_text, objects_text, end_part}
use Rattle.report_text.specs.Reports.{Report, AreTold, all_lines, listed_from, IsReportOf, IsReport, fed}
use Rattle.report.specs.declared.reader.Place.{Place}
use Rattle.report.specs.declared.reader.Place.TheVariants.{Events, State, Done}
use Rattle.report.specs.LineReading.{object_in, open_in, is_done}
use Rattle.report.specs.Readings.{Reading, unread, after_line, after_line_at, after_lines, after_state, after_objects, after_object, after_task, after_done, next_task, is_above}
use Rattle.report.proofs.EventLines.{mapped}
use Rattle.report.proofs.StateRead.{next_object}
use Rattle.report.proofs.StateLines.{object_means, open_means, done_means}
use Rattle.report.proofs.Standing.{InEvents, InState, IsWhole, Stands, StandsAt, next_in_events, object_stands, task_stands, done_stands, at_state, as_many, told_then, objects_then}

-- ---- a line of the state

no_parts : (set : TaskSet) (done parts : List ObjPart) (objects : Objects) → set.objects ≡ done ++ parts → AreTold done objects → ltb (length objects) (length set.objects) ≡ false → parts ≡ []
no_parts set done [] objects whole h e = refl
no_parts set done (o ∷ parts) objects whole h e =
    absurd (omega (arith, ltb-false _ _ e, as_many done objects h, ap length whole, length-append done (o ∷ parts)))

next_is_object : (set : TaskSet) (lines : List (List ℕ)) (text : List ℕ) (n : ℕ) (p : Report) (q : Reading) (h : InState set lines (at_state n p)) (parts : List ObjPart) → h.parts ≡ parts → ltb (length p.state.objects) (length set.objects) ≡ true
    → option_map (after_object (at_state n p)) (object_in set (object_at set (length p.state.objects)) text) ≡ Some q → Stands set (lines ++ text ∷ []) q
next_is_object set lines text n p q h [] none more e =
    absurd (let all : set.objects ≡ h.done = h.parts_are ∙ ap (λ ps. h.done ++ ps) none ∙ append-nil h.done in omega (arith, ltb-true _ _ more, as_many h.done p.state.objects h.objects, ap length all))
next_is_object set lines text n p q h (o ∷ parts) some more e =
    let whole : set.objects ≡ h.done ++ o ∷ parts = h.parts_are ∙ ap (λ ps. h.done ++ ps) some in
    let next = next_object set h.done parts o (length p.state.objects) whole (as_many h.done p.state.objects h.objects) in
    let none : p.state.tasks ≡ [] = elim h.later [
      | inl l ↦ absurd (let z : suc (length parts) ≡ 0 = ap length (sym some ∙ l) in omega (arith, z))
      | inr l ↦ l
    ] in
    mapped (after_object (at_state n p)) (object_in set (object_at set (length p.state.objects)) text) q e (λ words told same.
    subst (Stands set (lines ++ text ∷ [])) same (object_stands set lines text n p h o parts words some none (object_means set o text words (ap (λ part. object_in set part text) (sym next.1) ∙ told))))

next_is_task : (set : TaskSet) (lines : List (List ℕ)) (text : List ℕ) (n : ℕ) (p : Report) (q : Reading) (h : InState set lines (at_state n p)) → h.parts ≡ [] → (b : Bool) → is_done text ≡ b
    → cond b (Some (after_done (at_state n p))) (option_and_then (next_task (at_state n p)) (open_in set text)) ≡ Some q → Stands set (lines ++ text ∷ []) q
next_is_task set lines text n p q h none true done e = subst (Stands set (lines ++ text ∷ [])) (same_Some _ q e) (done_stands set lines text n p h none (done_means text done))
next_is_task set lines text n p q h none false done e =
    option_and_then_some (next_task (at_state n p)) (open_in set text) q e (λ t told next.
    let so = cond_some (is_above p.state.tasks t.id) (after_task (at_state n p) t) q next in
    subst (Stands set (lines ++ text ∷ [])) so.1 (task_stands set lines text n p h t none so.0 (open_means set text t told)))

next_in_state : (set : TaskSet) (lines : List (List ℕ)) (text : List ℕ) (n : ℕ) (p : Report) (q : Reading) → InState set lines (at_state n p) → after_state set (at_state n p) text ≡ Some q → Stands set (lines ++ text ∷ []) q
next_in_state set lines text n p q h e = go (ltb (length p.state.objects) (length set.objects)) refl e
  where
    go : (b : Bool) → ltb (length p.state.objects) (length set.objects) ≡ b
        → cond b (option_map (after_object (at_state n p)) (object_in set (object_at set (length p.state.objects)) text)) (after_objects set (at_state n p) text) ≡ Some q → Stands set (lines ++ text ∷ []) q
    go true b f = next_is_object set lines text n p q h h.parts refl b f
    go false b f = next_is_task set lines text n p q h (no_parts set h.done h.parts p.state.objects h.parts_are h.objects b) (is_done text) refl f

-- ---- any line, and all lines

next_at : (place : Place) (set : TaskSet) (lines : List (List ℕ)) (text : List ℕ) (n : ℕ) (p : Report) (q : Reading) → Stands set lines (record { place = place; line = n; report = p })
    → after_line_at place set (record { place = place; line = n; report = p }) text ≡ Some q → Stands set (lines ++ text ∷ []) q
next_at Events set lines text n p q h e = next_in_events set lines text n p q h e
next_at State set lines text n p q h e = next_in_state set lines text n p q h e
next_at Done set lines text n p q h e = absurd (none-some q e)

pub stands_next : (set : TaskSet) (lines : List (List ℕ)) (text : List ℕ) (r q : Reading) → Stands set lines r → after_line set r text ≡ Some q → Stands set (lines ++ text ∷ []) q
unfolding after_line
stands_next set lines text r q h e = next_at r.place set lines text r.line r.report q h e

stands_more : (set : TaskSet) (lines more : List (List ℕ)) (r q : Reading) → Stands set lines r → after_lines set r more ≡ Some q → Stands set (lines ++ more) q
stands_more set lines [] r q h e = subst (λ ls. Stands set ls q) (sym (append-nil lines)) (subst (Stands set lines) (same_Some r q e) h)
stands_more set lines (text ∷ more) r q h e =
    option_and_then_some (λ s. after_lines set s more) (after_line set r text) q e (λ s one rest.
    subst (λ ls. Stands set ls q) (append_assoc lines (text ∷ []) more) (stands_more set (lines ++ text ∷ []) more s q (stands_next set lines text r s h one) rest))

pub stands : (set : TaskSet) (lines : List (List ℕ)) (r : Reading) → after_lines set unread lines ≡ Some r → Stands set lines r
stands set lines r e = stands_more set [] lines unread r
    (record { events = []; told = tt; text = refl; listing = refl; line = refl; counted = refl; objects = refl; tasks = refl }) e

pub counted : (set : TaskSet) (lines : List (List ℕ)) (r : Reading) → Stands set lines r → r.line ≡ 1 + length lines
counted set lines r h = go r.place h
  where
    go : (place : Place) → StandsAt set lines r place → r.line ≡ 1 + length lines
    go Events h = h.counted
    go State h = h.counted
    go Done h = h.counted

pub whole_report : (set : TaskSet) (lines : List (List ℕ)) (r : Reading) → Stands set lines r → r.place ≡ Done → IsReportOf set r.report (fed lines)
whole_report set lines r h e = let whole : IsWhole set lines r = subst (StandsAt set lines r) e h in whole.report

-- ---- lines that were read go on to some report

abbrev pub zero_words : ℕ → List ℕ
zero_words zero = []
zero_words (suc n) = 0 ∷ zero_words n

abbrev pub zeros : List ObjPart → Objects
zeros parts = map (λ o. zero_words o.size) parts

zero_length : (n : ℕ) → length (zero_words n) ≡ n
zero_length zero = refl
zero_length (suc n) = ap suc (zero_length n)

zero_told : (n : ℕ) → AllByRecursion IsWord (zero_words n)
zero_told zero = tt
zero_told (suc n) = (lit< tt, zero_told n)

zeros_told : (parts : List ObjPart) → AreTold parts (zeros parts)
zeros_told [] = tt
zeros_told (o ∷ parts) = (zero_length o.size, zero_told o.size, zeros_told parts)

events_go_on : (set : TaskSet) (lines : List (List ℕ)) (r : Reading) → InEvents set lines r → (rest : List ℕ) × IsReport set (fed lines ++ rest)
events_go_on set lines r h =
    let state : DeviceState = record { objects = zeros set.objects; tasks = []; clock = 0; number = 0; next = 0 } in
    let report : Report = record { listing = listed_from 1 h.events; end_line = 1 + all_lines h.events; state = state } in
    let is : IsReportOf set report (fed lines ++ end_part set state 0) = record {
      lines = h.events;
      boots = 0;
      told = h.told;
      counted = lit< tt;
      state = record { clock = lit< tt; number = lit< tt; next = lit< tt; objects = zeros_told set.objects; tasks = tt; in_order = tt };
      listing = refl;
      end_line = refl;
      text = ap (λ t. t ++ end_part set state 0) h.text;
    } in
    (end_part set state 0, (report, is))

goes_on : (l e o t z d : List ℕ) → (t ≡ []) ⊎ (z ≡ []) → (l ++ (e ++ (o ++ t))) ++ (z ++ d) ≡ l ++ (((e ++ (o ++ z)) ++ t) ++ d)
goes_on l e o t z d (inl none) = rw none (simp (append_assoc, append-nil))
goes_on l e o t z d (inr none) = rw none (simp (append_assoc, append-nil))

state_goes_on : (set : TaskSet) (lines : List (List ℕ)) (r : Reading) → InState set lines r → (rest : List ℕ) × IsReport set (fed lines ++ rest)
state_goes_on set lines r h =
    let p = r.report in
    let state : DeviceState = record p.state { objects = p.state.objects ++ zeros h.parts } in
    let report : Report = record p { state = state } in
    let ends = end_text p.state.clock p.state.number p.state.next h.boots in
    let tasks = flat_map (open_text set) p.state.tasks in
    let left : (tasks ≡ []) ⊎ (objects_text h.parts (zeros h.parts) ≡ []) = elim h.later [
      | inl none ↦ inr (ap (λ ps. objects_text ps (zeros ps)) none)
      | inr none ↦ inl (ap (flat_map (open_text set)) none)
    ] in
    let objects_are : objects_text set.objects state.objects ≡ objects_text h.done p.state.objects ++ objects_text h.parts (zeros h.parts) =
    ap (λ ps. objects_text ps state.objects) h.parts_are ∙ objects_then h.done h.parts p.state.objects (zeros h.parts) h.objects in
    let is : IsReportOf set report (fed lines ++ (objects_text h.parts (zeros h.parts) ++ done_text)) = record {
      lines = h.events;
      boots = h.boots;
      told = h.told;
      counted = h.boots_are;
      state = record {
        clock = h.clock;
        number = h.number;
        next = h.next;
        objects = subst (λ ps. AreTold ps state.objects) (sym h.parts_are) (told_then h.done h.parts p.state.objects (zeros h.parts) h.objects (zeros_told h.parts));
        tasks = h.tasks;
        in_order = h.in_order;
      };
      listing = h.listing;
      end_line = h.end_line;
      text = ap (λ t. t ++ (objects_text h.parts (zeros h.parts) ++ done_text)) h.text
          ∙ goes_on (lines_text set h.events) ends (objects_text h.done p.state.objects) tasks (objects_text h.parts (zeros h.parts)) done_text left
          ∙ ap (λ os. lines_text set h.events ++ (((ends ++ os) ++ tasks) ++ done_text)) (sym objects_are);
    } in
    (objects_text h.parts (zeros h.parts) ++ done_text, (report, is))

pub go_on : (set : TaskSet) (lines : List (List ℕ)) (r : Reading) → Stands set lines r → (rest : List ℕ) × IsReport set (fed lines ++ rest)
go_on set lines r h = go r.place h
  where
    go : (place : Place) → StandsAt set lines r place → (rest : List ℕ) × IsReport set (fed lines ++ rest)
    go Events h = events_go_on set lines r h
    go State h = state_goes_on set lines r h
    go Done h = ([], (r.report, subst (IsReportOf set r.report) (sym (append-nil (fed lines))) h.report))
