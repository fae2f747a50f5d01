-- What stands behind a reading: lines that begin a report.
use Rattle.std.proofs.Common.{◌≡◌, ℕ, suc, ◌+◌, ◌<◌, ◌⊎◌, Bool, true, false, cond, List, [], ◌∷◌, ◌++◌, get_or, Some, option_map, flat_map, length, refl, sym, ap, ap₂, ◌∙◌, subst, append_assoc, append-nil, arith, inl, inr, length-append, add_assoc}
use Rattle.std.specs.Option.{option_or}
use Rattle.std.specs.List.{AllByRecursion}
use Rattle.std.proofs.lemmas.Bool.{ltb-true}
use Rattle.std.proofs.lemmas.Option.{same_Some}
use Rattle.kernel_model.specs.Effects.{Objects}
use Rattle.kernel_model.specs.Items.{Entry}
use Rattle.kernel_model.specs.Replay.{TaskRec}
use Rattle.kernel_model.specs.Serial.{InIdOrder}
use Rattle.kernel_model.specs.Turns.{Line}
use Rattle.set_model.specs.Sets.{TaskSet, ObjPart}
use Rattle.set_model.specs.Limits.{IsWord}
use Rattle.report_text.specs.Lines.{line_feed, line_text, end_text, object_text, open_text, done_text}
use Rattle.report_text.specs.Report.{lines_text, objects_text}
use Rattle.report_text.specs.Reports.{Listed, Report, IsTold, AreTold, IsToldTask, line_count, all_lines, listed_at, listed_from, IsReportOf, fed}
use Rattle.report.specs.declared.reader.Place.{Place}
use Rattle.report.specs.declared.reader.Place.TheVariants.{Events, State, Done}
use Rattle.report.specs.LineReading.{is_quiet, finish_in, end_in}
use Rattle.report.specs.Readings.{Reading, after_event_line, after_quiet, after_finish, after_end, after_object, after_task, after_done, is_above}
use Rattle.report.proofs.EventLines.{IsLineOf, quiet_means, finish_means, either, mapped}
use Rattle.report.proofs.FeedCuts.{fed_more}
use Rattle.report.proofs.StateLines.{IsEndLine, IsObjectLine, IsOpenLine, end_means}

-- ---- one event more

pub all_more : {A : Type 0} (P : A → Type 0) (xs : List A) (x : A) → AllByRecursion P xs → P x → AllByRecursion P (xs ++ x ∷ [])
all_more P [] x h k = (k, tt)
all_more P (y ∷ xs) x h k = (h.0, all_more P xs x h.1 k)

texts_more : {A : Type 0} (f : A → List ℕ) (xs : List A) (x : A) → flat_map f (xs ++ x ∷ []) ≡ flat_map f xs ++ f x
texts_more f [] x = append-nil (f x)
texts_more f (y ∷ xs) x = ap (λ t. f y ++ t) (texts_more f xs x) ∙ sym (append_assoc (f y) (flat_map f xs) (f x))

count_more : (events : List Line) (l : Line) → all_lines (events ++ l ∷ []) ≡ all_lines events + line_count l
count_more [] l = omega arith
count_more (e ∷ events) l = omega (arith, count_more events l)

listed_more : (n : ℕ) (events : List Line) (l : Line) → listed_from n (events ++ l ∷ []) ≡ listed_from n events ++ listed_at (n + all_lines events) l
listed_more n [] l = let z : n + 0 ≡ n = omega arith in rw z (append-nil (listed_at n l))
listed_more n (e ∷ events) l =
    ap (λ t. listed_at n e ++ t) (listed_more (n + line_count e) events l ∙ ap (λ k. listed_from (n + line_count e) events ++ listed_at k l) (add_assoc n (line_count e) (all_lines events)))
    ∙ sym (append_assoc (listed_at n e) (listed_from (n + line_count e) events) (listed_at (n + (line_count e + all_lines events)) l))

-- ---- what stands behind a reading, place by place

pub record InEvents (set : TaskSet) (lines : List (List ℕ)) (r : Reading) : Type 0 where
  pub events : List Line
  pub told : AllByRecursion (IsTold set) events
  pub text : fed lines ≡ lines_text set events
  pub listing : r.report.listing ≡ listed_from 1 events
  pub line : r.line ≡ 1 + all_lines events
  pub counted : r.line ≡ 1 + length lines
  pub objects : r.report.state.objects ≡ []
  pub tasks : r.report.state.tasks ≡ []

pub record InState (set : TaskSet) (lines : List (List ℕ)) (r : Reading) : Type 0 where
  pub events : List Line
  pub boots : ℕ
  pub done : List ObjPart
  pub parts : List ObjPart
  pub told : AllByRecursion (IsTold set) events
  pub listing : r.report.listing ≡ listed_from 1 events
  pub end_line : r.report.end_line ≡ 1 + all_lines events
  pub counted : r.line ≡ 1 + length lines
  pub clock : IsWord r.report.state.clock
  pub number : IsWord r.report.state.number
  pub next : IsWord r.report.state.next
  pub boots_are : IsWord boots
  pub parts_are : set.objects ≡ done ++ parts
  pub objects : AreTold done r.report.state.objects
  pub tasks : AllByRecursion (IsToldTask set) r.report.state.tasks
  pub in_order : InIdOrder r.report.state.tasks
  pub later : (parts ≡ []) ⊎ (r.report.state.tasks ≡ [])
  pub text : fed lines ≡ lines_text set events ++ (end_text r.report.state.clock r.report.state.number r.report.state.next boots ++ (objects_text done r.report.state.objects ++ flat_map (open_text set) r.report.state.tasks))

pub record IsWhole (set : TaskSet) (lines : List (List ℕ)) (r : Reading) : Type 0 where
  pub counted : r.line ≡ 1 + length lines
  pub report : IsReportOf set r.report (fed lines)

abbrev pub StandsAt : TaskSet → List (List ℕ) → Reading → Place → Type 0
StandsAt set lines r Events = InEvents set lines r
StandsAt set lines r State = InState set lines r
StandsAt set lines r Done = IsWhole set lines r

abbrev pub Stands : TaskSet → List (List ℕ) → Reading → Type 0
Stands set lines r = StandsAt set lines r r.place

pub one_more : {A : Type 0} (n : ℕ) (xs : List A) (x : A) → n ≡ 1 + length xs → n + 1 ≡ 1 + length (xs ++ x ∷ [])
one_more n xs x e = omega (arith, e, length-append xs (x ∷ []))

-- an event's line more, of which the reading has the finish
event_stands : (set : TaskSet) (lines : List (List ℕ)) (text : List ℕ) (n : ℕ) (p : Report) (l : Line) (told : List Listed) → InEvents set lines (record { place = Events; line = n; report = p }) → IsLineOf set text l → listed_at n l ≡ told
    → (q : Report) → q.listing ≡ p.listing ++ told → q.state.objects ≡ p.state.objects → q.state.tasks ≡ p.state.tasks
    → InEvents set (lines ++ text ∷ []) (record { place = Events; line = n + 1; report = q })
event_stands set lines text n p l told h is lists q listing objects tasks = record {
  events = h.events ++ l ∷ [];
  told = all_more (IsTold set) h.events l h.told is.told;
  text = fed_more lines text ∙ ap₂ (λ a b. a ++ b) h.text (sym is.text_is) ∙ sym (texts_more (line_text set) h.events l);
  listing = listing ∙ ap₂ (λ a b. a ++ b) h.listing (sym lists ∙ ap (λ k. listed_at k l) h.line) ∙ sym (listed_more 1 h.events l);
  line = omega (arith, h.line, count_more h.events l, is.one_line);
  counted = one_more n lines text h.counted;
  objects = objects ∙ h.objects;
  tasks = tasks ∙ h.tasks;
}

-- the `end` line
end_stands : (set : TaskSet) (lines : List (List ℕ)) (text : List ℕ) (n : ℕ) (p : Report) (v : List ℕ) → InEvents set lines (record { place = Events; line = n; report = p }) → IsEndLine text v
    → InState set (lines ++ text ∷ []) (after_end (record { place = Events; line = n; report = p }) v)
end_stands set lines text n p v h is = record {
  events = h.events;
  boots = get_or v 3 0;
  done = [];
  parts = set.objects;
  told = h.told;
  listing = h.listing;
  end_line = h.line;
  counted = one_more n lines text h.counted;
  clock = is.clock;
  number = is.number;
  next = is.next;
  boots_are = is.boots;
  parts_are = refl;
  objects = subst (AreTold []) (sym h.objects) tt;
  tasks = subst (AllByRecursion (IsToldTask set)) (sym h.tasks) tt;
  in_order = subst InIdOrder (sym h.tasks) tt;
  later = inr h.tasks;
  text = fed_more lines text ∙ ap₂ (λ a b. a ++ b) h.text (sym is.text_is ∙ sym (append-nil (end_text (get_or v 0 0) (get_or v 1 0) (get_or v 2 0) (get_or v 3 0))))
      ∙ ap (λ ts. lines_text set h.events ++ (end_text (get_or v 0 0) (get_or v 1 0) (get_or v 2 0) (get_or v 3 0) ++ flat_map (open_text set) ts)) (sym h.tasks);
}

-- a line of an event, or the `end` line
pub next_in_events : (set : TaskSet) (lines : List (List ℕ)) (text : List ℕ) (n : ℕ) (p : Report) (q : Reading) → InEvents set lines (record { place = Events; line = n; report = p })
    → after_event_line set (record { place = Events; line = n; report = p }) text ≡ Some q → Stands set (lines ++ text ∷ []) q
next_in_events set lines text n p q h e = go (is_quiet set text) refl e
  where
    finished : (entry : Entry) → finish_in set text ≡ Some entry → Stands set (lines ++ text ∷ []) (after_finish (record { place = Events; line = n; report = p }) entry)
    finished entry told =
        let so = finish_means set text entry told in
        event_stands set lines text n p so.event (record { line = n; entry = entry } ∷ []) h so.is_line (so.lists n) (record p { listing = p.listing ++ record { line = n; entry = entry } ∷ [] }) refl refl refl

    ended : (values : List ℕ) → end_in set text ≡ Some values → Stands set (lines ++ text ∷ []) (after_end (record { place = Events; line = n; report = p }) values)
    ended values told = end_stands set lines text n p values h (end_means set text values told)

    go : (b : Bool) → is_quiet set text ≡ b
        → cond b (Some (after_quiet (record { place = Events; line = n; report = p }))) (option_or (option_map (after_finish (record { place = Events; line = n; report = p })) (finish_in set text)) (option_map (after_end (record { place = Events; line = n; report = p })) (end_in set text))) ≡ Some q
        → Stands set (lines ++ text ∷ []) q
    go true b f =
        let so = quiet_means set text b in
        subst (Stands set (lines ++ text ∷ [])) (same_Some _ q f) (event_stands set lines text n p so.event [] h so.is_line (so.quiet n) p (sym (append-nil p.listing)) refl refl)
    go false b f = elim (either (option_map (after_finish (record { place = Events; line = n; report = p })) (finish_in set text)) (option_map (after_end (record { place = Events; line = n; report = p })) (end_in set text)) q f) [
      | inl k ↦ mapped (after_finish (record { place = Events; line = n; report = p })) (finish_in set text) q k (λ entry told same. subst (Stands set (lines ++ text ∷ [])) same (finished entry told))
      | inr k ↦ mapped (after_end (record { place = Events; line = n; report = p })) (end_in set text) q k (λ values told same. subst (Stands set (lines ++ text ∷ [])) same (ended values told))
    ]

-- ---- objects

told_more : (done : List ObjPart) (objects : Objects) (o : ObjPart) (words : List ℕ) → AreTold done objects → length words ≡ o.size → AllByRecursion IsWord words → AreTold (done ++ o ∷ []) (objects ++ words ∷ [])
told_more [] [] o words h e k = (e, k, tt)
told_more [] (w ∷ objects) o words h e k = absurd h
told_more (d ∷ done) [] o words h e k = absurd h
told_more (d ∷ done) (w ∷ objects) o words h e k = (h.0, h.1, told_more done objects o words h.2 e k)

pub as_many : (done : List ObjPart) (objects : Objects) → AreTold done objects → length objects ≡ length done
as_many [] [] h = refl
as_many [] (w ∷ objects) h = absurd h
as_many (d ∷ done) [] h = absurd h
as_many (d ∷ done) (w ∷ objects) h = ap suc (as_many done objects h.2)

pub told_then : (done parts : List ObjPart) (objects others : Objects) → AreTold done objects → AreTold parts others → AreTold (done ++ parts) (objects ++ others)
told_then [] parts [] others h k = k
told_then [] parts (w ∷ objects) others h k = absurd h
told_then (d ∷ done) parts [] others h k = absurd h
told_then (d ∷ done) parts (w ∷ objects) others h k = (h.0, h.1, told_then done parts objects others h.2 k)

pub objects_then : (done parts : List ObjPart) (objects others : Objects) → AreTold done objects → objects_text (done ++ parts) (objects ++ others) ≡ objects_text done objects ++ objects_text parts others
objects_then [] parts [] others h = refl
objects_then [] parts (w ∷ objects) others h = absurd h
objects_then (d ∷ done) parts [] others h = absurd h
objects_then (d ∷ done) parts (w ∷ objects) others h =
    ap (λ t. object_text d.name w ++ t) (objects_then done parts objects others h.2) ∙ sym (append_assoc (object_text d.name w) (objects_text done objects) (objects_text parts others))

objects_more : (done : List ObjPart) (objects : Objects) (o : ObjPart) (words : List ℕ) → AreTold done objects → objects_text (done ++ o ∷ []) (objects ++ words ∷ []) ≡ objects_text done objects ++ object_text o.name words
objects_more done objects o words h = objects_then done (o ∷ []) objects (words ∷ []) h ∙ ap (λ t. objects_text done objects ++ t) (append-nil (object_text o.name words))

-- ---- tasks

below_first : (t : TaskRec) (tasks : List TaskRec) (id : ℕ) → InIdOrder (t ∷ tasks) → is_above (t ∷ tasks) id ≡ true → t.id < id
below_first t [] id h e = ltb-true t.id id e
below_first t (u ∷ tasks) id h e = let later = below_first u tasks id h.1 e in omega (arith, h.0.0, later)

order_more : (tasks : List TaskRec) (t : TaskRec) → InIdOrder tasks → is_above tasks t.id ≡ true → InIdOrder (tasks ++ t ∷ [])
order_more [] t h e = (tt, tt)
order_more (u ∷ []) t h e = ((ltb-true u.id t.id e, tt), (tt, tt))
order_more (u ∷ v ∷ tasks) t h e =
    (all_more (λ w. u.id < w.id) (v ∷ tasks) t h.0 (below_first u (v ∷ tasks) t.id h e), order_more (v ∷ tasks) t h.1 e)

-- ---- a line of the state

object_behind : (l e o t w : List ℕ) → t ≡ [] → (l ++ (e ++ (o ++ t))) ++ w ≡ l ++ (e ++ ((o ++ w) ++ t))
object_behind l e o t w none = rw none (simp (append_assoc, append-nil))

task_behind : (l e o t w : List ℕ) → (l ++ (e ++ (o ++ t))) ++ w ≡ l ++ (e ++ (o ++ (t ++ w)))
task_behind l e o t w = simp append_assoc

done_behind : (l e o t d : List ℕ) → (l ++ (e ++ (o ++ t))) ++ d ≡ l ++ (((e ++ o) ++ t) ++ d)
done_behind l e o t d = simp append_assoc

abbrev pub at_state : ℕ → Report → Reading
at_state n p = record { place = State; line = n; report = p }

pub object_stands : (set : TaskSet) (lines : List (List ℕ)) (text : List ℕ) (n : ℕ) (p : Report) (h : InState set lines (at_state n p)) (o : ObjPart) (parts : List ObjPart) (words : List ℕ) → h.parts ≡ o ∷ parts → p.state.tasks ≡ [] → IsObjectLine o text words
    → InState set (lines ++ text ∷ []) (after_object (at_state n p) words)
object_stands set lines text n p h o parts words e none is = record {
  events = h.events;
  boots = h.boots;
  done = h.done ++ o ∷ [];
  parts = parts;
  told = h.told;
  listing = h.listing;
  end_line = h.end_line;
  counted = one_more n lines text h.counted;
  clock = h.clock;
  number = h.number;
  next = h.next;
  boots_are = h.boots_are;
  parts_are = h.parts_are ∙ ap (λ ps. h.done ++ ps) e ∙ sym (append_assoc h.done (o ∷ []) parts);
  objects = told_more h.done p.state.objects o words h.objects is.size is.words_are;
  tasks = h.tasks;
  in_order = h.in_order;
  later = inr none;
  text = fed_more lines text ∙ ap₂ (λ a b. a ++ b) h.text (sym is.text_is)
      ∙ object_behind (lines_text set h.events) (end_text p.state.clock p.state.number p.state.next h.boots) (objects_text h.done p.state.objects) (flat_map (open_text set) p.state.tasks) (object_text o.name words) (ap (flat_map (open_text set)) none)
      ∙ ap (λ os. lines_text set h.events ++ (end_text p.state.clock p.state.number p.state.next h.boots ++ (os ++ flat_map (open_text set) p.state.tasks))) (sym (objects_more h.done p.state.objects o words h.objects));
}

pub task_stands : (set : TaskSet) (lines : List (List ℕ)) (text : List ℕ) (n : ℕ) (p : Report) (h : InState set lines (at_state n p)) (t : TaskRec) → h.parts ≡ [] → is_above p.state.tasks t.id ≡ true → IsOpenLine set text t
    → InState set (lines ++ text ∷ []) (after_task (at_state n p) t)
task_stands set lines text n p h t none above is = record {
  events = h.events;
  boots = h.boots;
  done = h.done;
  parts = h.parts;
  told = h.told;
  listing = h.listing;
  end_line = h.end_line;
  counted = one_more n lines text h.counted;
  clock = h.clock;
  number = h.number;
  next = h.next;
  boots_are = h.boots_are;
  parts_are = h.parts_are;
  objects = h.objects;
  tasks = all_more (IsToldTask set) p.state.tasks t h.tasks is.told;
  in_order = order_more p.state.tasks t h.in_order above;
  later = inl none;
  text = fed_more lines text ∙ ap₂ (λ a b. a ++ b) h.text (sym is.text_is)
      ∙ task_behind (lines_text set h.events) (end_text p.state.clock p.state.number p.state.next h.boots) (objects_text h.done p.state.objects) (flat_map (open_text set) p.state.tasks) (open_text set t)
      ∙ ap (λ ts. lines_text set h.events ++ (end_text p.state.clock p.state.number p.state.next h.boots ++ (objects_text h.done p.state.objects ++ ts))) (sym (texts_more (open_text set) p.state.tasks t));
}

pub done_stands : (set : TaskSet) (lines : List (List ℕ)) (text : List ℕ) (n : ℕ) (p : Report) (h : InState set lines (at_state n p)) → h.parts ≡ [] → done_text ≡ text ++ line_feed
    → IsWhole set (lines ++ text ∷ []) (after_done (at_state n p))
done_stands set lines text n p h none is =
    let all : set.objects ≡ h.done = h.parts_are ∙ ap (λ ps. h.done ++ ps) none ∙ append-nil h.done in
    record {
      counted = one_more n lines text h.counted;
      report = record {
        lines = h.events;
        boots = h.boots;
        told = h.told;
        counted = h.boots_are;
        state = record { clock = h.clock; number = h.number; next = h.next; objects = subst (λ ps. AreTold ps p.state.objects) (sym all) h.objects; tasks = h.tasks; in_order = h.in_order };
        listing = h.listing;
        end_line = h.end_line;
        text = fed_more lines text ∙ ap₂ (λ a b. a ++ b) h.text (sym is)
            ∙ done_behind (lines_text set h.events) (end_text p.state.clock p.state.number p.state.next h.boots) (objects_text h.done p.state.objects) (flat_map (open_text set) p.state.tasks) done_text
            ∙ ap (λ ps. lines_text set h.events ++ (((end_text p.state.clock p.state.number p.state.next h.boots ++ objects_text ps p.state.objects) ++ flat_map (open_text set) p.state.tasks) ++ done_text)) (sym all);
      };
    }
