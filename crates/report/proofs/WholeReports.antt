-- A report is read to its end, and to what it tells; what is refused is refused at the first line that cannot stand.
use Rattle.std.proofs.Common.{◌≡◌, ℕ, zero, suc, ◌+◌, ◌≤◌, ◌<◌, Bool, true, List, [], ◌∷◌, ◌++◌, codes, Some, None, flat_map, map, length, refl, sym, ap, ap₂, ◌∙◌, append_assoc, append-nil, arith, ltb}
use Rattle.std.specs.Option.{option_and_then}
use Rattle.std.specs.List.{AllByRecursion, list_all}
use Rattle.std.proofs.lemmas.Bool.{lt-ltb, ltb-true, and_parts, and_from}
use Rattle.nv_base.specs.Texts.{field}
use Rattle.kernel_model.specs.Effects.{Objects, Outcome, Exit, Trap}
use Rattle.kernel_model.specs.Items.{Entry}
use Rattle.kernel_model.specs.Replay.{TaskRec, DeviceState}
use Rattle.kernel_model.specs.Turns.{Line, Nothing, Start, Stale, RefuseEmpty, RefuseSlots, RefuseRecords, Finish, Found, Failed, Booted}
use Rattle.set_model.specs.Sets.{TaskSet, ObjPart, object_at, program_at}
use Rattle.set_model.specs.Limits.{IsWord}
use Rattle.set_model.specs.Names.{IsNamed, IsName}
use Rattle.report_text.specs.Causes.{numbered_cause_word}
use Rattle.report_text.specs.Lines.{line_feed, line_text, entry_text, end_text, object_text, open_text, done_text}
use Rattle.report_text.specs.Report.{lines_text, objects_text}
use Rattle.report_text.specs.Reports.{Report, IsTold, IsToldEntry, IsToldOutcome, AreTold, IsToldTask, IsReportOf, AreLines, fed, all_lines, listed_from}
use Rattle.report.specs.declared.reader.Place.TheVariants.{Done}
use Rattle.report.specs.Fields.{Shape}
use Rattle.report.specs.LineReading.{words_shape, open_shape, end_shape, start_shape, slots_shape, pair_shape, boot_shape, exit_shape, trap_shape}
use Rattle.report.specs.Readings.{unread, after_lines}
use Rattle.report.proofs.Values.{value_text}
use Rattle.report.proofs.Shapes.{AreOf, shape_text, is_ink, value_ink, named_ink}
use Rattle.report.proofs.EventLines.{one, three, four, five}
use Rattle.report.proofs.EventsRead.{event_lines, entry_line, entry_line_of, boot_line, lines_then, events_read, among_events}
use Rattle.report.proofs.StateRead.{end_line, object_line, object_lines, open_line, in_state, objects_read, tasks_read, end_read, done_read, words_of}
use Rattle.report.proofs.Standing.{as_many}
use Rattle.report.proofs.StateLines.{pieces, words_mean}
use Rattle.report.proofs.FeedCuts.{IsLine, fed_then, lines_more, printed_line}

-- ---- the lines of a report

pub record IsFedAs (text : List ℕ) (lines : List (List ℕ)) : Type 0 where
  pub whole : AreLines lines
  pub text_is : fed lines ≡ text

fed_pair : (a b : List ℕ) (xs ys : List (List ℕ)) → IsFedAs a xs → IsFedAs b ys → IsFedAs (a ++ b) (xs ++ ys)
fed_pair a b xs ys h k = record { whole = lines_more xs ys h.whole k.whole; text_is = fed_then xs ys ∙ ap₂ (λ s t. s ++ t) h.text_is k.text_is }

fed_one : (text line : List ℕ) → IsLine line → text ≡ line ++ line_feed → IsFedAs text (line ∷ [])
fed_one text line h e = record { whole = (h, tt); text_is = append-nil (line ++ 10 ∷ []) ∙ sym e }

-- ---- no line of values has a line feed in it

abbrev is_printed : ℕ → Bool
is_printed b = ltb 31 b

ink_printed : (word : List ℕ) → list_all is_ink word ≡ true → list_all is_printed word ≡ true
ink_printed [] e = refl
ink_printed (b ∷ word) e =
    let h = and_parts (is_ink b) (list_all is_ink word) e in
    let one : ltb 31 b ≡ true = lt-ltb _ _ (omega (arith, ltb-true 32 b h.0)) in
    rw (one, ink_printed word h.1) refl

abbrev fronts_printed : Shape → Bool
fronts_printed shape = list_all (λ f. list_all is_printed f.0) shape

joined : (a b : List ℕ) → list_all is_printed a ≡ true → list_all is_printed b ≡ true → list_all is_printed (a ++ b) ≡ true
joined [] b h k = k
joined (x ∷ a) b h k = let p = and_parts (is_printed x) (list_all is_printed a) h in and_from (is_printed x) (list_all is_printed (a ++ b)) p.0 (joined a b p.1 k)

module _ (set : TaskSet) (named : IsNamed set) (few : set.cores ≤ 8) where
  shape_printed : (shape : Shape) (values : List ℕ) → fronts_printed shape ≡ true → AreOf set shape values → list_all is_printed (shape_text set shape values) ≡ true
  shape_printed [] values e h = refl
  shape_printed (f ∷ shape) [] e h = refl
  shape_printed (f ∷ shape) (v ∷ values) e h =
      let p = and_parts (list_all is_printed f.0) (fronts_printed shape) e in
      joined (f.0 ++ value_text set f.1 v) (shape_text set shape values)
      (joined f.0 (value_text set f.1 v) p.0 (ink_printed (value_text set f.1 v) (value_ink set named few f.1 v h.0)))
      (shape_printed shape values p.1 h.1)

  shape_line : (shape : Shape) (values : List ℕ) → fronts_printed shape ≡ true → AreOf set shape values → IsLine (shape_text set shape values)
  shape_line shape values e h = printed_line (shape_text set shape values) (shape_printed shape values e h)

  -- ---- events

  entry_of_fed : (word : List ℕ) (number task point first : ℕ) (o : Outcome) → list_all is_printed word ≡ true → IsWord number → IsWord task → IsWord point → IsWord first → IsToldOutcome o
      → IsFedAs (entry_text word (record { number = number; task = task; point = point; first = first; outcome = o })) (entry_line_of set word number task point first o ∷ [])
  entry_of_fed word number task point first (Exit code) printed n t p f c =
      fed_one _ (entry_line_of set word number task point first (Exit code))
      (shape_line (exit_shape word) (number ∷ task ∷ point ∷ code ∷ first ∷ []) (and_from (list_all is_printed word) true printed refl) (n, (t, (p, (c, (f, tt))))))
      (five (field word number) (field (codes " task ") task) (field (codes " point ") point) (field (codes " exit ") code) (field (codes " first ") first) line_feed)
  entry_of_fed word number task point first (Trap cause) printed n t p f c =
      fed_one _ (entry_line_of set word number task point first (Trap cause))
      (shape_line (trap_shape word) (number ∷ task ∷ point ∷ cause ∷ first ∷ []) (and_from (list_all is_printed word) true printed refl) (n, (t, (p, (c, (f, tt))))))
      (five (field word number) (field (codes " task ") task) (field (codes " point ") point) (codes " trap " ++ numbered_cause_word cause) (field (codes " first ") first) line_feed)

  entry_fed : (word : List ℕ) (e : Entry) → list_all is_printed word ≡ true → IsToldEntry e → IsFedAs (entry_text word e) (entry_line set word e ∷ [])
  entry_fed word e printed h = entry_of_fed word e.number e.task e.point e.first e.outcome printed h.number h.task h.point h.first h.outcome

  pair_fed : (word : List ℕ) (a b core task : ℕ) → list_all is_printed word ≡ true → IsWord a → IsWord b → core < set.cores → IsWord task
      → IsFedAs ((((field word a ++ field (codes " ") b) ++ field (codes " core ") core) ++ field (codes " task ") task) ++ line_feed) (shape_text set (pair_shape word) (a ∷ b ∷ core ∷ task ∷ []) ∷ [])
  pair_fed word a b core task printed i j c t =
      fed_one _ (shape_text set (pair_shape word) (a ∷ b ∷ core ∷ task ∷ []))
      (shape_line (pair_shape word) (a ∷ b ∷ core ∷ task ∷ []) (and_from (list_all is_printed word) true printed refl) (i, (j, (c, (t, tt)))))
      (four (field word a) (field (codes " ") b) (field (codes " core ") core) (field (codes " task ") task) line_feed)

  boot_fed : (boots : ℕ) → IsWord boots → IsFedAs (field (codes "boot ") boots ++ line_feed) (boot_line set boots ∷ [])
  boot_fed boots b = fed_one _ (boot_line set boots) (shape_line boot_shape (boots ∷ []) refl (b, tt)) (one (field (codes "boot ") boots) line_feed)

  event_fed : (l : Line) → IsTold set l → IsFedAs (line_text set l) (event_lines set l)
  event_fed Nothing h = record { whole = tt; text_is = refl }
  event_fed (Start core task at) (c, t, a) =
      fed_one _ (shape_text set start_shape (core ∷ task ∷ at ∷ [])) (shape_line start_shape (core ∷ task ∷ at ∷ []) refl (c, (t, (a, tt))))
      (three (field (codes "start core ") core) (field (codes " task ") task) (field (codes " at ") at) line_feed)
  event_fed (Stale core task lo hi) (c, t, l, h) = pair_fed (codes "stale ") lo hi core task refl l h c t
  event_fed (RefuseEmpty core task lo hi) (c, t, l, h) = pair_fed (codes "refuse empty ") lo hi core task refl l h c t
  event_fed (RefuseSlots core task object) (c, t, o) =
      fed_one _ (shape_text set slots_shape (object ∷ core ∷ task ∷ [])) (shape_line slots_shape (object ∷ core ∷ task ∷ []) refl (o, (c, (t, tt))))
      (three (codes "refuse slots " ++ (object_at set object).name) (field (codes " core ") core) (field (codes " task ") task) line_feed)
  event_fed (RefuseRecords core task pending spawns) (c, t, p, s) = pair_fed (codes "refuse records ") pending spawns core task refl p s c t
  event_fed (Finish e) h = entry_fed (codes "finish ") e refl h
  event_fed (Found e) h = entry_fed (codes "found ") e refl h
  event_fed Failed h = fed_one _ (codes "fail") (printed_line (codes "fail") refl) refl
  event_fed (Booted None boots) (f, b) = boot_fed boots b
  event_fed (Booted (Some e) boots) (f, b) =
      let both = fed_pair (entry_text (codes "found ") e) (field (codes "boot ") boots ++ line_feed) (entry_line set (codes "found ") e ∷ []) (boot_line set boots ∷ []) (entry_fed (codes "found ") e refl f) (boot_fed boots b) in
      record { whole = both.whole; text_is = both.text_is ∙ sym (append_assoc (entry_text (codes "found ") e) (field (codes "boot ") boots) line_feed) }

  events_fed : (events : List Line) → AllByRecursion (IsTold set) events → IsFedAs (lines_text set events) (flat_map (event_lines set) events)
  events_fed [] h = record { whole = tt; text_is = refl }
  events_fed (l ∷ events) h = fed_pair (line_text set l) (lines_text set events) (event_lines set l) (flat_map (event_lines set) events) (event_fed l h.0) (events_fed events h.1)

  -- ---- the state

  words_front : (n : ℕ) → fronts_printed (words_shape n) ≡ true
  words_front zero = refl
  words_front (suc n) = words_front n

  object_fed : (o : ObjPart) (words : List ℕ) → IsName o.name → length words ≡ o.size → AllByRecursion IsWord words → IsFedAs (object_text o.name words) (object_line set o words ∷ [])
  object_fed o words name size h =
      let of = words_of set o.size words size h in
      let front = joined (codes "object ") o.name refl (ink_printed o.name (named_ink o.name name)) in
      fed_one _ (object_line set o words)
      (printed_line (object_line set o words) (joined (codes "object " ++ o.name) (shape_text set (words_shape o.size) words) front (shape_printed (words_shape o.size) words (words_front o.size) of)))
      (ap (λ t. ((codes "object " ++ o.name) ++ t) ++ line_feed) (words_mean set o.size words of).text)

  objects_fed : (parts : List ObjPart) (objects : Objects) → AllByRecursion IsName (map (λ o. o.name) parts) → AreTold parts objects → IsFedAs (objects_text parts objects) (object_lines set parts objects)
  objects_fed [] [] names h = record { whole = tt; text_is = refl }
  objects_fed [] (w ∷ objects) names h = absurd h
  objects_fed (o ∷ parts) [] names h = absurd h
  objects_fed (o ∷ parts) (words ∷ objects) names h =
      fed_pair (object_text o.name words) (objects_text parts objects) (object_line set o words ∷ []) (object_lines set parts objects) (object_fed o words names.0 h.0 h.1) (objects_fed parts objects names.1 h.2)

  open_fed : (t : TaskRec) → IsToldTask set t → IsFedAs (open_text set t) (open_line set t ∷ [])
  open_fed t h = fed_one _ (open_line set t) (shape_line open_shape (t.id ∷ t.program ∷ t.arg ∷ []) refl (h.id, (h.program, (h.arg, tt))))
      (pieces (field (codes "open ") t.id) (codes " ") (program_at set t.program).name (field (codes " ") t.arg) line_feed)

  tasks_fed : (tasks : List TaskRec) → AllByRecursion (IsToldTask set) tasks → IsFedAs (flat_map (open_text set) tasks) (map (open_line set) tasks)
  tasks_fed [] h = record { whole = tt; text_is = refl }
  tasks_fed (t ∷ tasks) h = fed_pair (open_text set t) (flat_map (open_text set) tasks) (open_line set t ∷ []) (map (open_line set) tasks) (open_fed t h.0) (tasks_fed tasks h.1)

  end_fed : (clock number next boots : ℕ) → IsWord clock → IsWord number → IsWord next → IsWord boots → IsFedAs (end_text clock number next boots) (end_line set clock number next boots ∷ [])
  end_fed clock number next boots c n i b =
      fed_one _ (end_line set clock number next boots) (shape_line end_shape (clock ∷ number ∷ next ∷ boots ∷ []) refl (c, (n, (i, (b, tt)))))
      (four (field (codes "end clock ") clock) (field (codes " number ") number) (field (codes " next ") next) (field (codes " boots ") boots) line_feed)

  -- ---- all of it

  abbrev pub state_lines : DeviceState → ℕ → List (List ℕ)
  state_lines state boots = end_line set state.clock state.number state.next boots ∷ (object_lines set set.objects state.objects ++ (map (open_line set) state.tasks ++ codes "done" ∷ []))

  abbrev pub report_lines : List Line → DeviceState → ℕ → List (List ℕ)
  report_lines events state boots = flat_map (event_lines set) events ++ state_lines state boots

  regrouped : (l e o t d : List ℕ) → l ++ (e ++ (o ++ (t ++ d))) ≡ l ++ (((e ++ o) ++ t) ++ d)
  regrouped l e o t d = simp append_assoc

  pub report_fed : (r : Report) (bytes : List ℕ) (h : IsReportOf set r bytes) → IsFedAs bytes (report_lines h.lines r.state h.boots)
  report_fed r bytes h =
      let ends = end_text r.state.clock r.state.number r.state.next h.boots in
      let objects = objects_text set.objects r.state.objects in
      let tasks = flat_map (open_text set) r.state.tasks in
      let last = fed_one done_text (codes "done") (printed_line (codes "done") refl) refl in
      let two = fed_pair tasks done_text (map (open_line set) r.state.tasks) (codes "done" ∷ []) (tasks_fed r.state.tasks h.state.tasks) last in
      let three = fed_pair objects (tasks ++ done_text) (object_lines set set.objects r.state.objects) (map (open_line set) r.state.tasks ++ codes "done" ∷ []) (objects_fed set.objects r.state.objects named.objects.each h.state.objects) two in
      let four = fed_pair ends (objects ++ (tasks ++ done_text)) (end_line set r.state.clock r.state.number r.state.next h.boots ∷ []) (object_lines set set.objects r.state.objects ++ (map (open_line set) r.state.tasks ++ codes "done" ∷ []))
      (end_fed r.state.clock r.state.number r.state.next h.boots h.state.clock h.state.number h.state.next h.counted) three in
      let all = fed_pair (lines_text set h.lines) (ends ++ (objects ++ (tasks ++ done_text))) (flat_map (event_lines set) h.lines) (state_lines r.state h.boots) (events_fed h.lines h.told) four in
      record { whole = all.whole; text_is = all.text_is ∙ regrouped (lines_text set h.lines) ends objects tasks done_text ∙ sym h.text }

  pub report_read : (r : Report) (bytes : List ℕ) (h : IsReportOf set r bytes) → (n : ℕ) × (after_lines set unread (report_lines h.lines r.state h.boots) ≡ Some (record { place = Done; line = n; report = r }))
  report_read r bytes h =
      let events = h.lines in
      let s = r.state in
      let n = 1 + all_lines events in
      let first : Report = record { listing = listed_from 1 events; end_line = 0; state = record { objects = []; tasks = []; clock = 0; number = 0; next = 0 } } in
      let second : Report = record { listing = listed_from 1 events; end_line = n; state = record { objects = []; tasks = []; clock = s.clock; number = s.number; next = s.next } } in
      let third : Report = record { listing = listed_from 1 events; end_line = n; state = record { objects = s.objects; tasks = []; clock = s.clock; number = s.number; next = s.next } } in
      let fourth : Report = record { listing = listed_from 1 events; end_line = n; state = s } in
      let k = (n + 1) + length set.objects in
      let m = k + length s.tasks in
      let all = as_many set.objects s.objects h.state.objects in
      let last : after_lines set (in_state m fourth) (codes "done" ∷ []) ≡ Some (record { place = Done; line = m + 1; report = fourth }) = ap (option_and_then (λ q. Some q)) (done_read set named few m fourth all) in
      let tasks = lines_then set (in_state k third) (in_state m fourth) _ (map (open_line set) s.tasks) (codes "done" ∷ []) (tasks_read set named few s.tasks k third all h.state.tasks h.state.in_order) last in
      let objects = lines_then set (in_state (n + 1) second) (in_state k third) _ (object_lines set set.objects s.objects) (map (open_line set) s.tasks ++ codes "done" ∷ []) (objects_read set named few [] set.objects s.objects (n + 1) second refl refl h.state.objects) tasks in
      let ends : after_lines set (among_events n first) (state_lines s h.boots) ≡ Some (record { place = Done; line = m + 1; report = fourth }) =
      ap (option_and_then (λ q. after_lines set q (object_lines set set.objects s.objects ++ (map (open_line set) s.tasks ++ codes "done" ∷ []))))
      (end_read set named few n first s.clock s.number s.next h.boots h.state.clock h.state.number h.state.next h.counted)
      ∙ objects in
      let read = lines_then set unread (among_events n first) _ (flat_map (event_lines set) events) (state_lines s h.boots) (events_read set named few 1 unread.report events h.told) ends in
      (m + 1, read ∙ ap₂ (λ listing line. Some (record { place = Done; line = m + 1; report = record { listing = listing; end_line = line; state = s } })) (sym h.listing) (sym h.end_line))
