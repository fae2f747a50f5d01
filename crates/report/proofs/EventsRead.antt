-- The lines that events are told by are read as those events.
use Rattle.std.proofs.Common.{◌≡◌, ℕ, ◌+◌, ◌≤◌, ◌||◌, true, false, List, [], ◌∷◌, ◌++◌, codes, Option, Some, None, option_map, nat_eq, flat_map, refl, ap, ◌∙◌, append_assoc, append-nil, is_some, arith, ap₂, ◌<◌, ◌^◌, length, add_assoc}
use Rattle.std.specs.Option.{option_or, option_and_then}
use Rattle.std.specs.Cmp.Lexicographic.{pointwise}
use Rattle.std.specs.Fmt.{decimal}
use Rattle.std.proofs.lemmas.Option.{none-some, same_Some}
use Rattle.std.specs.List.{AllByRecursion}
use Rattle.std.proofs.lemmas.Bool.{or_left, or_right}
use Rattle.kernel_model.specs.Effects.{Outcome, Exit, Trap}
use Rattle.kernel_model.specs.Items.{Entry}
use Rattle.kernel_model.specs.Turns.{Line, Nothing, Start, Stale, RefuseEmpty, RefuseSlots, RefuseRecords, Finish, Found, Failed, Booted}
use Rattle.set_model.specs.Sets.{TaskSet}
use Rattle.set_model.specs.Names.{IsNamed}
use Rattle.report_text.specs.Causes.{numbered_cause_word}
use Rattle.report_text.specs.Reports.{Report, IsTold, IsToldEntry, IsToldOutcome, line_count, all_lines, listed_at, listed_from}
use Rattle.report.specs.declared.reader.Place.TheVariants.{Events}
use Rattle.report.specs.Fields.{Kind, Number, Core, Object, Cause, Shape, values_in, fits}
use Rattle.report.specs.LineReading.{start_shape, pair_shape, slots_shape, boot_shape, exit_shape, trap_shape, exit_entry, trap_entry, is_attempt, is_refusal, is_power, is_quiet, attempt_shape, entry_in, finish_in}
use Rattle.report.specs.Readings.{Reading, after_line, after_lines}
use Rattle.report.proofs.Values.{same}
use Rattle.report.proofs.Shapes.{AreOf, shape_text, values_back, field_back, is_spaced}

-- ---- the lines

abbrev pub entry_line_of : TaskSet → List ℕ → (number task point first : ℕ) → Outcome → List ℕ
entry_line_of set word number task point first (Exit code) = shape_text set (exit_shape word) (number ∷ task ∷ point ∷ code ∷ first ∷ [])
entry_line_of set word number task point first (Trap cause) = shape_text set (trap_shape word) (number ∷ task ∷ point ∷ cause ∷ first ∷ [])

abbrev pub entry_line : TaskSet → List ℕ → Entry → List ℕ
entry_line set word e = entry_line_of set word e.number e.task e.point e.first e.outcome

abbrev pub boot_line : TaskSet → ℕ → List ℕ
boot_line set boots = shape_text set boot_shape (boots ∷ [])

-- those of one event, without their line feeds
abbrev pub event_lines : TaskSet → Line → List (List ℕ)
event_lines set Nothing = []
event_lines set (Start core task at) = shape_text set start_shape (core ∷ task ∷ at ∷ []) ∷ []
event_lines set (Stale core task lo hi) = shape_text set (pair_shape (codes "stale ")) (lo ∷ hi ∷ core ∷ task ∷ []) ∷ []
event_lines set (RefuseEmpty core task lo hi) = shape_text set (pair_shape (codes "refuse empty ")) (lo ∷ hi ∷ core ∷ task ∷ []) ∷ []
event_lines set (RefuseSlots core task object) = shape_text set slots_shape (object ∷ core ∷ task ∷ []) ∷ []
event_lines set (RefuseRecords core task pending spawns) = shape_text set (pair_shape (codes "refuse records ")) (pending ∷ spawns ∷ core ∷ task ∷ []) ∷ []
event_lines set (Finish e) = entry_line set (codes "finish ") e ∷ []
event_lines set (Found e) = entry_line set (codes "found ") e ∷ []
event_lines set Failed = codes "fail" ∷ []
event_lines set (Booted None boots) = boot_line set boots ∷ []
event_lines set (Booted (Some e) boots) = entry_line set (codes "found ") e ∷ boot_line set boots ∷ []

-- a reading among the events
abbrev pub among_events : ℕ → Report → Reading
among_events n p = record { place = Events; line = n; report = p }

-- with the finishes of some lines
abbrev pub with_listed : Report → ℕ → List Line → Report
with_listed p n events = record p { listing = p.listing ++ listed_from n events }

-- ---- runs of lines

pub lines_then : (set : TaskSet) (r q s : Reading) (xs ys : List (List ℕ)) → after_lines set r xs ≡ Some q → after_lines set q ys ≡ Some s → after_lines set r (xs ++ ys) ≡ Some s
lines_then set r q s [] ys a b = ap (λ x. after_lines set x ys) (same_Some r q a) ∙ b
lines_then set r q s (x ∷ xs) ys a b = go (λ t f. lines_then set t q s xs ys f b) (after_line set r x) refl a
  where
    go : ((t : Reading) → after_lines set t xs ≡ Some q → after_lines set t (xs ++ ys) ≡ Some s) → (o : Option Reading) → after_line set r x ≡ o → option_and_then (λ t. after_lines set t xs) o ≡ Some q → option_and_then (λ t. after_lines set t (xs ++ ys)) o ≡ Some s
    go later None is f = absurd (none-some q f)
    go later (Some t) is f = later t f

pub one_line : (set : TaskSet) (r q : Reading) (line : List ℕ) → after_line set r line ≡ Some q → after_lines set r (line ∷ []) ≡ Some q
one_line set r q line e = rw e refl

-- ---- one event

-- behind the number of a finish
abbrev exit_rest : Shape
exit_rest = (codes " task ", Number) ∷ (codes " point ", Number) ∷ (codes " exit ", Number) ∷ (codes " first ", Number) ∷ []

abbrev trap_rest : Shape
trap_rest = (codes " task ", Number) ∷ (codes " point ", Number) ∷ (codes " trap ", Cause) ∷ (codes " first ", Number) ∷ []

module _ (set : TaskSet) (named : IsNamed set) (few : set.cores ≤ 8) where
  fit_back : (f : List ℕ × Kind) (shape : Shape) (values : List ℕ) → is_spaced shape ≡ true → AreOf set (f ∷ shape) values → fits set (f ∷ shape) (shape_text set (f ∷ shape) values) ≡ true
  fit_back f shape values spaced h = ap is_some (values_back set named few f shape values spaced h)

  quiet_step : (n : ℕ) (p : Report) (line : List ℕ) → is_quiet set line ≡ true → after_line set (among_events n p) line ≡ Some (among_events (n + 1) (record p { listing = p.listing ++ [] }))
  unfolding after_line
  quiet_step n p line e = rw (e, append-nil p.listing) refl

  finish_step : (n : ℕ) (p : Report) (line : List ℕ) (e : Entry) → is_quiet set line ≡ false → finish_in set line ≡ Some e
      → after_line set (among_events n p) line ≡ Some (among_events (n + 1) (record p { listing = p.listing ++ record { line = n; entry = e } ∷ [] }))
  unfolding after_line
  finish_step n p line e loud is = rw (loud, is) refl

  -- a trap's line is no exit's
  no_exit : (word : List ℕ) (number task point : ℕ) (rest : List ℕ) → number < 2 ^ 32 → task < 2 ^ 32 → point < 2 ^ 32
      → values_in set (exit_shape word) ((word ++ decimal number) ++ ((codes " task " ++ decimal task) ++ ((codes " point " ++ decimal point) ++ (codes " trap " ++ rest)))) ≡ None
  no_exit word number task point rest n t p =
      rw (
        field_back set named few Number word number ((codes " task " ++ decimal task) ++ ((codes " point " ++ decimal point) ++ (codes " trap " ++ rest))) n refl,
        field_back set named few Number (codes " task ") task ((codes " point " ++ decimal point) ++ (codes " trap " ++ rest)) t refl,
        field_back set named few Number (codes " point ") point (codes " trap " ++ rest) p refl,
      ) refl

  entry_back : (word : List ℕ) (number task point first : ℕ) (o : Outcome) → number < 2 ^ 32 → task < 2 ^ 32 → point < 2 ^ 32 → first < 2 ^ 32 → IsToldOutcome o
      → entry_in set word (entry_line_of set word number task point first o) ≡ Some (record { number = number; task = task; point = point; first = first; outcome = o })
  entry_back word number task point first (Exit code) n t p f c =
      rw (values_back set named few (word, Number) exit_rest (number ∷ task ∷ point ∷ code ∷ first ∷ []) refl (n, (t, (p, (c, (f, tt)))))) refl
  entry_back word number task point first (Trap cause) n t p f c =
      ap₂ (λ x y. option_or (option_map exit_entry x) (option_map trap_entry y))
      (ap (λ text. values_in set (exit_shape word) ((word ++ decimal number) ++ ((codes " task " ++ decimal task) ++ ((codes " point " ++ decimal point) ++ text)))) (append_assoc (codes " trap ") (numbered_cause_word cause) _)
      ∙ no_exit word number task point (numbered_cause_word cause ++ ((codes " first " ++ decimal first) ++ [])) n t p)
      (values_back set named few (word, Number) trap_rest (number ∷ task ∷ point ∷ cause ∷ first ∷ []) refl (n, (t, (p, (c, (f, tt))))))

  finish_back : (e : Entry) → IsToldEntry e → (is_quiet set (entry_line set (codes "finish ") e) ≡ false) × (finish_in set (entry_line set (codes "finish ") e) ≡ Some e)
  finish_back e h = (loud e.outcome, ap (λ x. option_or x (entry_in set (codes "found ") (entry_line set (codes "finish ") e))) (entry_back (codes "finish ") e.number e.task e.point e.first e.outcome h.number h.task h.point h.first h.outcome))
    where
      loud : (o : Outcome) → is_quiet set (entry_line_of set (codes "finish ") e.number e.task e.point e.first o) ≡ false
      loud (Exit code) = refl
      loud (Trap cause) = refl

  found_back : (e : Entry) → IsToldEntry e → (is_quiet set (entry_line set (codes "found ") e) ≡ false) × (finish_in set (entry_line set (codes "found ") e) ≡ Some e)
  found_back e h = (loud e.outcome, ap (λ x. option_or x (entry_in set (codes "found ") (entry_line set (codes "found ") e))) (other e.outcome) ∙ entry_back (codes "found ") e.number e.task e.point e.first e.outcome h.number h.task h.point h.first h.outcome)
    where
      loud : (o : Outcome) → is_quiet set (entry_line_of set (codes "found ") e.number e.task e.point e.first o) ≡ false
      loud (Exit code) = refl
      loud (Trap cause) = refl

      other : (o : Outcome) → entry_in set (codes "finish ") (entry_line_of set (codes "found ") e.number e.task e.point e.first o) ≡ None
      other (Exit code) = refl
      other (Trap cause) = refl

  attempt_quiet : (line : List ℕ) → is_attempt set line ≡ true → is_quiet set line ≡ true
  attempt_quiet line e = or_left (is_attempt set line || is_refusal set line) (is_power set line) (or_left (is_attempt set line) (is_refusal set line) e)

  refusal_quiet : (line : List ℕ) → is_refusal set line ≡ true → is_quiet set line ≡ true
  refusal_quiet line e = or_left (is_attempt set line || is_refusal set line) (is_power set line) (or_right (is_attempt set line) (is_refusal set line) e)

  power_quiet : (line : List ℕ) → is_power set line ≡ true → is_quiet set line ≡ true
  power_quiet line e = or_right (is_attempt set line || is_refusal set line) (is_power set line) e

  start_fits : (core task at : ℕ) → core < set.cores → task < 2 ^ 32 → at < 2 ^ 32 → fits set start_shape (shape_text set start_shape (core ∷ task ∷ at ∷ [])) ≡ true
  start_fits core task at c t a = fit_back (codes "start core ", Core) ((codes " task ", Number) ∷ (codes " at ", Number) ∷ []) (core ∷ task ∷ at ∷ []) refl (c, (t, (a, tt)))

  pair_fits : (word : List ℕ) (lo hi core task : ℕ) → lo < 2 ^ 32 → hi < 2 ^ 32 → core < set.cores → task < 2 ^ 32 → fits set (pair_shape word) (shape_text set (pair_shape word) (lo ∷ hi ∷ core ∷ task ∷ [])) ≡ true
  pair_fits word lo hi core task l h c t = fit_back (word, Number) ((codes " ", Number) ∷ attempt_shape) (lo ∷ hi ∷ core ∷ task ∷ []) refl (l, (h, (c, (t, tt))))

  slots_fits : (object core task : ℕ) → object < length set.objects → core < set.cores → task < 2 ^ 32 → fits set slots_shape (shape_text set slots_shape (object ∷ core ∷ task ∷ [])) ≡ true
  slots_fits object core task o c t = fit_back (codes "refuse slots ", Object) attempt_shape (object ∷ core ∷ task ∷ []) refl (o, (c, (t, tt)))

  boot_quiet : (boots : ℕ) → boots < 2 ^ 32 → is_quiet set (boot_line set boots) ≡ true
  boot_quiet boots b = power_quiet (boot_line set boots) (or_left (fits set boot_shape (boot_line set boots)) (pointwise nat_eq (boot_line set boots) (codes "fail"))
      (fit_back (codes "boot ", Number) [] (boots ∷ []) refl (b, tt)))

  line_quiet : (n : ℕ) (p : Report) (line : List ℕ) → is_quiet set line ≡ true → after_lines set (among_events n p) (line ∷ []) ≡ Some (among_events (n + 1) (record p { listing = p.listing ++ [] }))
  line_quiet n p line e = one_line set (among_events n p) _ line (quiet_step n p line e)

  pub event_read : (n : ℕ) (p : Report) (l : Line) → IsTold set l → after_lines set (among_events n p) (event_lines set l) ≡ Some (among_events (n + line_count l) (record p { listing = p.listing ++ listed_at n l }))
  event_read n p Nothing h = let z : n + 0 ≡ n = omega arith in rw (z, append-nil p.listing) refl
  event_read n p (Start core task at) (c, t, a) =
      let text = shape_text set start_shape (core ∷ task ∷ at ∷ []) in
      line_quiet n p text (attempt_quiet text (or_left (fits set start_shape text) (fits set (pair_shape (codes "stale ")) text) (start_fits core task at c t a)))
  event_read n p (Stale core task lo hi) (c, t, l, h) =
      let text = shape_text set (pair_shape (codes "stale ")) (lo ∷ hi ∷ core ∷ task ∷ []) in
      line_quiet n p text (attempt_quiet text (or_right (fits set start_shape text) (fits set (pair_shape (codes "stale ")) text) (pair_fits (codes "stale ") lo hi core task l h c t)))
  event_read n p (RefuseEmpty core task lo hi) (c, t, l, h) =
      let text = shape_text set (pair_shape (codes "refuse empty ")) (lo ∷ hi ∷ core ∷ task ∷ []) in
      let empty = fits set (pair_shape (codes "refuse empty ")) text in
      line_quiet n p text (refusal_quiet text (or_left (empty || fits set slots_shape text) (fits set (pair_shape (codes "refuse records ")) text) (or_left empty (fits set slots_shape text) (pair_fits (codes "refuse empty ") lo hi core task l h c t))))
  event_read n p (RefuseSlots core task object) (c, t, o) =
      let text = shape_text set slots_shape (object ∷ core ∷ task ∷ []) in
      let empty = fits set (pair_shape (codes "refuse empty ")) text in
      line_quiet n p text (refusal_quiet text (or_left (empty || fits set slots_shape text) (fits set (pair_shape (codes "refuse records ")) text) (or_right empty (fits set slots_shape text) (slots_fits object core task o c t))))
  event_read n p (RefuseRecords core task pending spawns) (c, t, l, h) =
      let text = shape_text set (pair_shape (codes "refuse records ")) (pending ∷ spawns ∷ core ∷ task ∷ []) in
      let empty = fits set (pair_shape (codes "refuse empty ")) text in
      line_quiet n p text (refusal_quiet text (or_right (empty || fits set slots_shape text) (fits set (pair_shape (codes "refuse records ")) text) (pair_fits (codes "refuse records ") pending spawns core task l h c t)))
  event_read n p (Finish e) h = let so = finish_back e h in one_line set (among_events n p) _ (entry_line set (codes "finish ") e) (finish_step n p (entry_line set (codes "finish ") e) e so.0 so.1)
  event_read n p (Found e) h = let so = found_back e h in one_line set (among_events n p) _ (entry_line set (codes "found ") e) (finish_step n p (entry_line set (codes "found ") e) e so.0 so.1)
  event_read n p Failed h = line_quiet n p (codes "fail") (power_quiet (codes "fail") (or_right (fits set boot_shape (codes "fail")) (pointwise nat_eq (codes "fail") (codes "fail")) (same (codes "fail"))))
  event_read n p (Booted None boots) (f, b) = line_quiet n p (boot_line set boots) (boot_quiet boots b)
  event_read n p (Booted (Some e) boots) (f, b) =
      let so = found_back e f in
      let told = record p { listing = p.listing ++ record { line = n; entry = e } ∷ [] } in
      let two : (n + 1) + 1 ≡ n + 2 = omega arith in
      lines_then set (among_events n p) (among_events (n + 1) told) _ (entry_line set (codes "found ") e ∷ []) (boot_line set boots ∷ [])
      (one_line set (among_events n p) _ (entry_line set (codes "found ") e) (finish_step n p (entry_line set (codes "found ") e) e so.0 so.1))
      (line_quiet (n + 1) told (boot_line set boots) (boot_quiet boots b))
      ∙ ap₂ (λ k listing. Some (among_events k (record p { listing = listing }))) two (append-nil told.listing)

  -- all events
  pub events_read : (n : ℕ) (p : Report) (events : List Line) → AllByRecursion (IsTold set) events
      → after_lines set (among_events n p) (flat_map (event_lines set) events) ≡ Some (among_events (n + all_lines events) (with_listed p n events))
  events_read n p [] h = let z : n + 0 ≡ n = omega arith in rw (z, append-nil p.listing) refl
  events_read n p (l ∷ events) h =
      let q = record p { listing = p.listing ++ listed_at n l } in
      lines_then set (among_events n p) (among_events (n + line_count l) q) _ (event_lines set l) (flat_map (event_lines set) events) (event_read n p l h.0) (events_read (n + line_count l) q events h.1)
      ∙ ap₂ (λ k listing. Some (among_events k (record p { listing = listing }))) (add_assoc n (line_count l) (all_lines events)) (append_assoc p.listing (listed_at n l) (listed_from (n + line_count l) events))
