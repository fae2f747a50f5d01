-- The lines that tell the state at the end of a report are read as that state.
use Rattle.std.proofs.Common.{◌≡◌, ℕ, zero, suc, ◌+◌, ◌≤◌, true, false, List, [], ◌∷◌, ◌++◌, codes, get_or, Some, option_map, map, length, refl, sym, ap, ap₂, ◌∙◌, subst, append_assoc, append-nil, arith, ltb, length-append, add_assoc}
use Rattle.std.specs.Option.{option_and_then}
use Rattle.std.specs.List.{AllByRecursion}
use Rattle.std.proofs.lemmas.Bool.{lt-ltb, le-ltb}
use Rattle.kernel_model.specs.Effects.{Objects}
use Rattle.kernel_model.specs.Replay.{TaskRec}
use Rattle.kernel_model.specs.Serial.{InIdOrder}
use Rattle.set_model.specs.Sets.{TaskSet, ObjPart, object_at}
use Rattle.set_model.specs.Limits.{IsWord}
use Rattle.set_model.specs.Names.{IsNamed}
use Rattle.report_text.specs.Reports.{Report, AreTold, IsToldTask}
use Rattle.report.specs.declared.reader.Place.TheVariants.{State, Done}
use Rattle.report.specs.Fields.{Number, Program, values_in, behind}
use Rattle.report.specs.LineReading.{end_shape, words_shape, object_in, open_shape, open_task}
use Rattle.report.specs.Readings.{Reading, after_line, after_lines, after_end, is_above, next_task, after_object}
use Rattle.report.proofs.Values.{no_object}
use Rattle.report.proofs.Shapes.{AreOf, shape_text, values_back, rest_back, behind_back, is_spaced}
use Rattle.report.proofs.EventsRead.{among_events, lines_then}

-- ---- the lines

abbrev pub end_line : TaskSet → (clock number next boots : ℕ) → List ℕ
end_line set clock number next boots = shape_text set end_shape (clock ∷ number ∷ next ∷ boots ∷ [])

abbrev pub object_line : TaskSet → ObjPart → List ℕ → List ℕ
object_line set o words = (codes "object " ++ o.name) ++ shape_text set (words_shape o.size) words

abbrev pub object_lines : TaskSet → List ObjPart → Objects → List (List ℕ)
object_lines set (o ∷ parts) (words ∷ objects) = object_line set o words ∷ object_lines set parts objects
object_lines set _ _ = []

abbrev pub open_line : TaskSet → TaskRec → List ℕ
open_line set t = shape_text set open_shape (t.id ∷ t.program ∷ t.arg ∷ [])

-- a reading behind the `end` line
abbrev pub in_state : ℕ → Report → Reading
in_state n p = record { place = State; line = n; report = p }

abbrev pub with_objects : Report → Objects → Report
with_objects p objects = record p { state = record p.state { objects = objects } }

abbrev pub with_tasks : Report → List TaskRec → Report
with_tasks p tasks = record p { state = record p.state { tasks = tasks } }

-- ---- objects

words_spaced : (n : ℕ) → is_spaced (words_shape n) ≡ true
words_spaced zero = refl
words_spaced (suc n) = words_spaced n

pub words_of : (set : TaskSet) (n : ℕ) (words : List ℕ) → length words ≡ n → AllByRecursion IsWord words → AreOf set (words_shape n) words
words_of set zero [] e h = tt
words_of set zero (w ∷ words) e h = absurd (omega arith)
words_of set (suc n) [] e h = absurd (omega arith)
words_of set (suc n) (w ∷ words) e h = (h.0, words_of set n words (omega arith) h.1)

pub next_object : (set : TaskSet) (done parts : List ObjPart) (o : ObjPart) (k : ℕ) → set.objects ≡ done ++ o ∷ parts → k ≡ length done → (ltb k (length set.objects) ≡ true) × (object_at set k ≡ o)
next_object set done parts o k whole is =
    let long : length set.objects ≡ length done + suc (length parts) = ap length whole ∙ length-append done (o ∷ parts) in
    (lt-ltb _ _ (omega (arith, long)), ap (λ xs. get_or xs k no_object) whole ∙ at_end done k is)
  where
    at_end : (done : List ObjPart) (k : ℕ) → k ≡ length done → get_or (done ++ o ∷ parts) k no_object ≡ o
    at_end done k e = rw e (get_or-seam done)
      where
        get_or-seam : (done : List ObjPart) → get_or (done ++ o ∷ parts) (length done) no_object ≡ o
        get_or-seam [] = refl
        get_or-seam (d ∷ done) = get_or-seam done

module _ (set : TaskSet) (named : IsNamed set) (few : set.cores ≤ 8) where
  object_back : (o : ObjPart) (words : List ℕ) → length words ≡ o.size → AllByRecursion IsWord words → object_in set o (object_line set o words) ≡ Some words
  object_back o words size h =
      let values = shape_text set (words_shape o.size) words in
      ap (λ text. option_and_then (λ named. option_and_then (values_in set (words_shape o.size)) (behind o.name named)) (behind (codes "object ") text)) (append_assoc (codes "object ") o.name values)
      ∙ ap (option_and_then (λ named. option_and_then (values_in set (words_shape o.size)) (behind o.name named))) (behind_back (codes "object ") (o.name ++ values))
      ∙ ap (option_and_then (values_in set (words_shape o.size))) (behind_back o.name values)
      ∙ rest_back set named few (words_shape o.size) words (words_spaced o.size) (words_of set o.size words size h)

  object_step : (n : ℕ) (p : Report) (o : ObjPart) (words line : List ℕ) → ltb (length p.state.objects) (length set.objects) ≡ true → object_at set (length p.state.objects) ≡ o → object_in set o line ≡ Some words
      → after_line set (in_state n p) line ≡ Some (in_state (n + 1) (with_objects p (p.state.objects ++ words ∷ [])))
  unfolding after_line
  object_step n p o words line more is told = rw more (ap (λ part. option_map (after_object (in_state n p)) (object_in set part line)) is ∙ ap (option_map (after_object (in_state n p))) told)

  pub objects_read : (done parts : List ObjPart) (objects : Objects) (n : ℕ) (p : Report) → set.objects ≡ done ++ parts → length p.state.objects ≡ length done → AreTold parts objects
      → after_lines set (in_state n p) (object_lines set parts objects) ≡ Some (in_state (n + length parts) (with_objects p (p.state.objects ++ objects)))
  objects_read done [] [] n p whole is h = let z : n + 0 ≡ n = omega arith in rw (z, append-nil p.state.objects) refl
  objects_read done [] (words ∷ objects) n p whole is h = absurd h
  objects_read done (o ∷ parts) [] n p whole is h = absurd h
  objects_read done (o ∷ parts) (words ∷ objects) n p whole is h =
      let next = next_object set done parts o (length p.state.objects) whole is in
      let q = with_objects p (p.state.objects ++ words ∷ []) in
      let seam : set.objects ≡ (done ++ o ∷ []) ++ parts = whole ∙ sym (append_assoc done (o ∷ []) parts) in
      let long : length (p.state.objects ++ words ∷ []) ≡ length (done ++ o ∷ []) = length-append p.state.objects (words ∷ []) ∙ ap (λ k. k + 1) is ∙ sym (length-append done (o ∷ [])) in
      lines_then set (in_state n p) (in_state (n + 1) q) _ (object_line set o words ∷ []) (object_lines set parts objects)
      (ap (option_and_then (λ r. Some r)) (object_step n p o words (object_line set o words) next.0 next.1 (object_back o words h.0 h.1)))
      (objects_read (done ++ o ∷ []) parts objects (n + 1) q seam long h.2)
      ∙ ap₂ (λ k all. Some (in_state k (with_objects p all))) (add_assoc n 1 (length parts) ∙ ap (λ k. n + k) (omega arith)) (append_assoc p.state.objects (words ∷ []) objects)

  -- ---- open tasks

  task_step : (n : ℕ) (p : Report) (t : TaskRec) → length p.state.objects ≡ length set.objects → IsToldTask set t → is_above p.state.tasks t.id ≡ true
      → after_line set (in_state n p) (open_line set t) ≡ Some (in_state (n + 1) (with_tasks p (p.state.tasks ++ t ∷ [])))
  unfolding after_line
  task_step n p t all h last =
      let no_more : ltb (length p.state.objects) (length set.objects) ≡ false = le-ltb _ _ (omega arith) in
      rw no_more (ap (λ o. option_and_then (next_task (in_state n p)) (option_map open_task o))
      (values_back set named few (codes "open ", Number) ((codes " ", Program) ∷ (codes " ", Number) ∷ []) (t.id ∷ t.program ∷ t.arg ∷ []) refl (h.id, (h.program, (h.arg, tt))))
      ∙ rw last refl)

  above_last : (before : List TaskRec) (t : TaskRec) (later : List TaskRec) → InIdOrder (before ++ t ∷ later) → is_above before t.id ≡ true
  above_last [] t later h = refl
  above_last (u ∷ []) t later h = lt-ltb _ _ h.0.0
  above_last (u ∷ v ∷ before) t later h = above_last (v ∷ before) t later h.1

  pub tasks_read : (tasks : List TaskRec) (n : ℕ) (p : Report) → length p.state.objects ≡ length set.objects → AllByRecursion (IsToldTask set) tasks → InIdOrder (p.state.tasks ++ tasks)
      → after_lines set (in_state n p) (map (open_line set) tasks) ≡ Some (in_state (n + length tasks) (with_tasks p (p.state.tasks ++ tasks)))
  tasks_read [] n p all h order = let z : n + 0 ≡ n = omega arith in rw (z, append-nil p.state.tasks) refl
  tasks_read (t ∷ tasks) n p all h order =
      let q = with_tasks p (p.state.tasks ++ t ∷ []) in
      lines_then set (in_state n p) (in_state (n + 1) q) _ (open_line set t ∷ []) (map (open_line set) tasks)
      (ap (option_and_then (λ r. Some r)) (task_step n p t all h.0 (above_last p.state.tasks t tasks order)))
      (tasks_read tasks (n + 1) q all h.1 (subst InIdOrder (sym (append_assoc p.state.tasks (t ∷ []) tasks)) order))
      ∙ ap₂ (λ k ts. Some (in_state k (with_tasks p ts))) (add_assoc n 1 (length tasks) ∙ ap (λ k. n + k) (omega arith)) (append_assoc p.state.tasks (t ∷ []) tasks)

  -- ---- the first line and the last

  pub end_read : (n : ℕ) (p : Report) (clock number next boots : ℕ) → IsWord clock → IsWord number → IsWord next → IsWord boots
      → after_line set (among_events n p) (end_line set clock number next boots) ≡ Some (after_end (among_events n p) (clock ∷ number ∷ next ∷ boots ∷ []))
  unfolding after_line
  end_read n p clock number next boots c m i b =
      ap (option_map (after_end (among_events n p)))
      (values_back set named few (codes "end clock ", Number) ((codes " number ", Number) ∷ (codes " next ", Number) ∷ (codes " boots ", Number) ∷ []) (clock ∷ number ∷ next ∷ boots ∷ []) refl (c, (m, (i, (b, tt)))))

  pub done_read : (n : ℕ) (p : Report) → length p.state.objects ≡ length set.objects → after_line set (in_state n p) (codes "done") ≡ Some (record { place = Done; line = n + 1; report = p })
  unfolding after_line
  done_read n p all = let no_more : ltb (length p.state.objects) (length set.objects) ≡ false = le-ltb _ _ (omega arith) in rw no_more refl
