-- A run of the kernel, event by event.
use Rattle.std.proofs.Common.{◌≡◌, ℕ, zero, suc, ◌+◌, ◌<◌, ◌≤◌, ◌⊎◌, inl, inr, List, [], ◌∷◌, ◌++◌, true, false, cond, nat_eq, length, take, drop, Option, Some, refl, ap, sym, ◌∙◌, subst, append_assoc, add-one, arith}
use Rattle.std.specs.Prelude.{slice_get}
use Rattle.std.proofs.lemmas.Grind.{flat_map-append}
use Rattle.std.proofs.lemmas.List.{append-nil, length-map, length-take-le, take_all, take-append-drop}
use Rattle.nv_base.specs.Streams.{PutsFront, PutsText, FaultCounted, Stream}
use Rattle.rv_core.specs.State.{MachineState}
use Rattle.nv_base.specs.declared.lines.Line as base
use Rattle.nv_base.specs.declared.lines.Line.TheVariants as own_line
use Rattle.nv_base.specs.declared.lines.Entry as base_entry
use Rattle.kernel_model.specs.Items.{Entry}
use Rattle.kernel_model.specs.Turns.{Booted, Failed, Finish, Found, Line, Nothing, RefuseEmpty, RefuseRecords, RefuseSlots, Stale, Start}
use Rattle.kernel_model.specs.Events.{Boot, CoreStep, Event, Fail, On, Power, State, event_step, lines_of, state_after}
use Rattle.kernel_model.specs.Durable.{boots_at, boots_by, event_writes, turn_boots}
use Rattle.kernel_model.specs.Report.{found_lines, unprinted}
use Rattle.kernel_model.proofs.ForCallers.{history-bound, lines_of-append, one_more}
use Rattle.kernel_model.proofs.DurableLaws.{boots_step}
use Rattle.kernel_model.proofs.Reruns.{length-listing}
use Rattle.power_trace.specs.Events.{event_of}
use Rattle.power_trace.specs.declared.event.Event as own
use Rattle.set_model.specs.Sets.{TaskSet}
use Rattle.set_model.specs.Views.{entry_if, entry_of, line_of}
use Rattle.device_model.specs.Words.{Change, Words}
use Rattle.device_model.specs.Devices.{Device}
use Rattle.recovery.specs.Images.{words_of}
use Rattle.report.specs.Named.{NamesObject}
use Rattle.report_text.specs.Lines.{line_text}
use Rattle.report_text.specs.Report.{end_part, lines_text}
use Rattle.headline.specs.Runs.{Origin, after, event_lines, first_state, state_read, world_from}
use Rattle.headline.specs.Images.{Decodes, HasGrown, HasImages}
use Rattle.headline.specs.Report.{report_text}
use Rattle.kernel_core.specs.Events.{CutsEvent, IsAt, SimulatesEvent}
use Rattle.kernel_core.specs.Steps.{KeepsSet}
use Rattle.kernel_core.specs.declared.kernel.Kernel.{Kernel}
use Rattle.kernel_core.proofs.Lawful.{listed_at}
use Rattle.simulation.specs.Runs.{Begins, Goes, HasDone, IsHalted, PutsStart, Stops, StopsAfter, first_lines_text, tail_text}
use Rattle.simulation.specs.Stores.{Store, words_in}
use Rattle.simulation.specs.declared.halt.Halt.{Halt}
use Rattle.simulation.specs.declared.halt.Halt.TheVariants as halt
use Rattle.simulation.proofs.Fronts.{front_later, puts_more, puts_nothing}
use Rattle.simulation.proofs.Halting.{start_here, whole_start}

-- the laws of a kernel at a state, and of images
abbrev pub DurableLaw : Type 0
DurableLaw = (o : Origin) (k : Kernel) (words : Words) (s : State MachineState) → IsAt o k words s → Decodes o words s

abbrev pub NoneLaw : Type 0
NoneLaw = (o : Origin) (events : List Event) (start : List ℕ) (log : List Change) → Decodes o (words_of log start) (first_state o) → HasImages o events start log log 0

abbrev pub MoreLaw : Type 0
MoreLaw = (o : Origin) (events : List Event) (start : List ℕ) (before log grown : List Change) (n : ℕ) (e : Event) → HasImages o events start before log n → slice_get events n ≡ Some e
    → HasGrown log grown (event_writes (after o (take n events)) e) → Decodes o (words_of grown start) (after o (take (n + 1) events)) → HasImages o events start before grown (n + 1)

pub begun : (o : Origin) (events : List Event) (k : Kernel) (s : Store) (p : Stream) → DurableLaw → NoneLaw → Begins o events k s → Goes o events 0 k s s p p
begun o events k s p durable none b = record {
  at = b.at;
  live = b.live;
  room = b.room;
  start = refl;
  losses = omega arith;
  images = none o events s.start s.log (durable o k (words_in s) (first_state o) b.at);
  puts = puts_nothing p;
}

-- ---- one event more

-- the next of what is left
pub next_is : (all : List Event) (n : ℕ) (e : Event) (rest : List Event) → drop n all ≡ e ∷ rest → slice_get all n ≡ Some e
next_is [] zero e rest h = absurd (cc h)
next_is [] (suc n) e rest h = absurd (cc h)
next_is (x ∷ all) zero e rest h = cc h
next_is (x ∷ all) (suc n) e rest h = next_is all n e rest h

rest_from : (all : List Event) (n : ℕ) (e : Event) (rest : List Event) → drop n all ≡ e ∷ rest → rest ≡ drop (suc n) all
rest_from [] zero e rest h = absurd (cc h)
rest_from [] (suc n) e rest h = absurd (cc h)
rest_from (x ∷ all) zero e rest h = cc h
rest_from (x ∷ all) (suc n) e rest h = rest_from all n e rest h

pub rest_is : (all : List Event) (n : ℕ) (e : Event) (rest : List Event) → drop n all ≡ e ∷ rest → rest ≡ drop (n + 1) all
rest_is all n e rest h = rest_from all n e rest h ∙ ap (λ (m : ℕ). drop m all) (sym (add-one n))

pub some_left : (all left : List Event) (n : ℕ) → left ≡ drop n all → n < length all → left ≡ [] → ⊥
some_left [] left n h l e = absurd (omega (arith, l))
some_left (x ∷ all) left zero h l e = let same : x ∷ all ≡ [] = sym h ∙ e in cc same
some_left (x ∷ all) left (suc n) h l e = some_left all left n h (omega (arith, l)) e

pub next_below : (all : List Event) (n : ℕ) (e : Event) (rest : List Event) → drop n all ≡ e ∷ rest → n < length all
next_below [] zero e rest h = absurd (cc h)
next_below [] (suc n) e rest h = absurd (cc h)
next_below (x ∷ all) zero e rest h = omega arith
next_below (x ∷ all) (suc n) e rest h = let below = next_below all n e rest h in omega (arith, below)

pub next_within : (all : List Event) (n : ℕ) (e : Event) (rest : List Event) → drop n all ≡ e ∷ rest → n + 1 ≤ length all
next_within all n e rest h = let below = next_below all n e rest h in omega (arith, below)

-- nothing is left where all were done
pub none_left : (all : List Event) (n : ℕ) → drop n all ≡ [] → n ≤ length all → n ≡ length all
none_left [] n h few = omega (arith, few)
none_left (x ∷ all) zero h few = absurd (cc h)
none_left (x ∷ all) (suc n) h few = let same = none_left all n h (omega (arith, few)) in omega (arith, same)

-- a line is added
one_line_more : (o : Origin) (events : List Event) (n : ℕ) (e : Event) (l : base.Line) → slice_get events n ≡ Some e → line_of l ≡ (event_step (world_from o) (after o (take n events)) e).1
    → first_lines_text o events (n + 1) ≡ first_lines_text o events n ++ line_text o.device.set (line_of l)
one_line_more o events n e l at tells =
    let set = o.device.set in
    let more = one_more (world_from o) (first_state o) events n e at in
    ap (lines_text set) (more.1 ∙ ap (λ (x : Line). event_lines o (take n events) ++ x ∷ []) (sym tells))
    ∙ flat_map-append (line_text set) (event_lines o (take n events)) (line_of l ∷ [])
    ∙ ap (λ (x : List ℕ). first_lines_text o events n ++ x) (append-nil (line_text set (line_of l)))

-- what an event leads to
record LeadsTo (o : Origin) (events : List Event) (n : ℕ) (j : Kernel) (first later : Store) (l : base.Line) : Type 0 where
  at : IsAt o j (words_in later) (after o (take (n + 1) events))
  images : HasImages o events first.start first.log later.log (n + 1)
  text : first_lines_text o events (n + 1) ≡ first_lines_text o events n ++ line_text o.device.set (line_of l)

leads_to : (o : Origin) (events : List Event) (n : ℕ) (k j : Kernel) (first now later : Store) (e : own.Event) (l : base.Line) (p q : Stream) → DurableLaw → MoreLaw → Goes o events n k first now p q → slice_get events n ≡ Some (event_of e)
    → SimulatesEvent k e (words_in now) now.log j (words_in later) later.log l → later.start ≡ now.start → LeadsTo o events n j first later l
unfolding SimulatesEvent
leads_to o events n k j first now later e l p q durable follows g at turns same =
    let more = one_more (world_from o) (first_state o) events n (event_of e) at in
    let s = after o (take n events) in
    let t = turns o s g.at in
    let next : IsAt o j (words_in later) (after o (take (n + 1) events)) = subst (IsAt o j (words_in later)) (sym more.0) t.next in
    let start : first.start ≡ later.start = sym (same ∙ g.start) in
    record {
      at = next;
      images = follows o events first.start first.log now.log later.log n (event_of e) g.images at t.written
          (subst (λ (xs : List ℕ). Decodes o (words_of later.log xs) (after o (take (n + 1) events))) (sym start) (durable o j (words_in later) (after o (take (n + 1) events)) next));
      text = one_line_more o events n (event_of e) l at t.tells;
    }

pub goes_on : (o : Origin) (events : List Event) (n : ℕ) (k j : Kernel) (first now later : Store) (e : own.Event) (l : base.Line) (p q r : Stream) (at : TaskSet) → DurableLaw → MoreLaw → Goes o events n k first now p q → slice_get events n ≡ Some (event_of e)
    → SimulatesEvent k e (words_in now) now.log j (words_in later) later.log l → later.start ≡ now.start → now.losses ≤ later.losses → KeepsSet k j → j.lost ≡ false → at ≡ o.device.set
    → PutsText (line_text at (line_of l)) q r → Goes o events (n + 1) j first later p r
goes_on o events n k j first now later e l p q r at durable follows g is turns same grows kept live set put =
    let t = leads_to o events n k j first now later e l p q durable follows g is turns same in
    record {
      at = t.at;
      live = live;
      room = let room = kept.room in let most = g.room in omega (arith, room, most);
      start = same ∙ g.start;
      losses = let few = g.losses in omega (arith, few, grows);
      images = t.images;
      puts = subst (λ (x : List ℕ). PutsText x p r) (sym t.text) (puts_more p q r (first_lines_text o events n) (line_text o.device.set (line_of l)) g.puts (subst (λ (x : TaskSet). PutsText (line_text x (line_of l)) q r) set put));
    }

-- a kernel that is the same
pub same_goes : (o : Origin) (events : List Event) (n : ℕ) (k j : Kernel) (first now same : Store) (p q : Stream) → j ≡ k → same ≡ now → Goes o events n k first now p q → Goes o events n j first same p q
same_goes o events n k j first now same p q e f g = subst (λ (x : Kernel). Goes o events n x first same p q) (sym e) (subst (λ (s : Store). Goes o events n k first s p q) (sym f) g)

-- an event that leaves the device alone, and tells nothing
pub passes_on : (o : Origin) (events : List Event) (n : ℕ) (k j : Kernel) (first now later : Store) (e : own.Event) (p q : Stream) → DurableLaw → MoreLaw → Goes o events n k first now p q → slice_get events n ≡ Some (event_of e)
    → SimulatesEvent k e (words_in now) now.log j (words_in later) later.log own_line.Nothing → later.start ≡ now.start → now.losses ≤ later.losses → KeepsSet k j → j.lost ≡ false → Goes o events (n + 1) j first later p q
passes_on o events n k j first now later e p q durable follows g is turns same grows kept live =
    goes_on o events n k j first now later e own_line.Nothing p q q o.device.set durable follows g is turns same grows kept live refl (puts_nothing q)

-- ---- the report is the lines of all events, and then what comes after them

whole_report : (o : Origin) (events : List Event) → report_text o events ≡ lines_text o.device.set (event_lines o events) ++ tail_text o (after o events)
whole_report o events =
    let set = o.device.set in
    let found : List Line = found_lines (unprinted (after o events)) in
    let read : List ℕ = end_part set (state_read o events) (after o events).boots in
    ap (λ (t : List ℕ). t ++ read) (flat_map-append (line_text set) (event_lines o events) found) ∙ append_assoc (lines_text set (event_lines o events)) (lines_text set found) read

-- so it begins with those of the first n
pub split_report : (o : Origin) (events : List Event) (n : ℕ) → (rest : List ℕ) × (report_text o events ≡ first_lines_text o events n ++ rest)
split_report o events n =
    let set = o.device.set in
    let more : List Line = lines_of (world_from o) (after o (take n events)) (drop n events) in
    let tail : List ℕ = tail_text o (after o events) in
    let lines : event_lines o events ≡ event_lines o (take n events) ++ more = ap (event_lines o) (sym (take-append-drop n events)) ∙ lines_of-append (world_from o) (take n events) (drop n events) (first_state o) in (
      lines_text set more ++ tail,
      whole_report o events
          ∙ ap (λ (l : List Line). lines_text set l ++ tail) lines
          ∙ ap (λ (t : List ℕ). t ++ tail) (flat_map-append (line_text set) (event_lines o (take n events)) more)
          ∙ append_assoc (first_lines_text o events n) (lines_text set more) tail,
    )

-- all of it, behind the lines of all events
pub ended_report : (o : Origin) (events : List Event) → report_text o events ≡ first_lines_text o events (length events) ++ tail_text o (after o (take (length events) events))
ended_report o events = subst (λ (x : List Event). report_text o events ≡ lines_text o.device.set (event_lines o x) ++ tail_text o (after o x)) (sym (take_all (length events) events (omega arith))) (whole_report o events)

-- ---- a run that stops at an event

-- the sink failed on its line
pub line_cut : (o : Origin) (events : List Event) (n : ℕ) (k j : Kernel) (first now later : Store) (e : own.Event) (l : base.Line) (p q r : Stream) (at : TaskSet) → DurableLaw → MoreLaw → Goes o events n k first now p q → slice_get events n ≡ Some (event_of e)
    → SimulatesEvent k e (words_in now) now.log j (words_in later) later.log l → later.start ≡ now.start → at ≡ o.device.set → PutsFront (line_text at (line_of l)) q r → PutsFront (report_text o events) p r
line_cut o events n k j first now later e l p q r at durable follows g is turns same set put =
    let t = leads_to o events n k j first now later e l p q durable follows g is turns same in
    let rest = split_report o events (n + 1) in
    front_later p q r (first_lines_text o events n) (line_text o.device.set (line_of l)) rest.0 (report_text o events) (rest.1 ∙ ap (λ (x : List ℕ). x ++ rest.0) t.text) g.puts (subst (λ (x : TaskSet). PutsFront (line_text x (line_of l)) q r) set put)

pub line_done : (o : Origin) (events : List Event) (n : ℕ) (k j : Kernel) (first now later : Store) (e : own.Event) (l : base.Line) (p q : Stream) → DurableLaw → MoreLaw → Goes o events n k first now p q → slice_get events n ≡ Some (event_of e) → n < length events
    → SimulatesEvent k e (words_in now) now.log j (words_in later) later.log l → later.start ≡ now.start → HasDone o events first later
line_done o events n k j first now later e l p q durable follows g is less turns same =
    let t = leads_to o events n k j first now later e l p q durable follows g is turns same in (n + 1, omega (arith, less), t.images)

-- the device lost its call
pub call_lost : (o : Origin) (events : List Event) (n : ℕ) (k : Kernel) (first now : Store) (p q : Stream) (lost : ℕ) → Goes o events n k first now p q → FaultCounted first.losses lost → FaultCounted first.losses lost × PutsStart (report_text o events) p q
call_lost o events n k first now p q lost g f =
    let rest = split_report o events n in
    (f, subst (λ (t : List ℕ). PutsStart t p q) (sym rest.1) (start_here p q (first_lines_text o events n) rest.0 (whole_start (first_lines_text o events n) p q g.puts)))

-- ---- and what the device holds then

pub line_stops : (o : Origin) (events : List Event) (n : ℕ) (k j : Kernel) (first now later : Store) (e : own.Event) (l : base.Line) (p q r : Stream) (at : TaskSet) → DurableLaw → MoreLaw → Goes o events n k first now p q → slice_get events n ≡ Some (event_of e) → n < length events
    → SimulatesEvent k e (words_in now) now.log j (words_in later) later.log l → later.start ≡ now.start → at ≡ o.device.set → PutsFront (line_text at (line_of l)) q r → Stops o events first later p r halt.WriteFault
line_stops o events n k j first now later e l p q r at durable follows g is less turns same set put =
    let t = leads_to o events n k j first now later e l p q durable follows g is turns same in record {
      lines = n;
      middle = q;
      put = g.puts;
      stands = inl (less, (line_text o.device.set (line_of l), t.text, subst (λ (x : TaskSet). PutsFront (line_text x (line_of l)) q r) set put, t.images));
    }

call_images : (o : Origin) (events : List Event) (n : ℕ) (k : Kernel) (first now later : Store) (e : own.Event) (p q : Stream) → MoreLaw → Goes o events n k first now p q → slice_get events n ≡ Some (event_of e)
    → CutsEvent k e (words_in now) now.log (words_in later) later.log → later.start ≡ now.start → HasImages o events first.start first.log later.log n ⊎ HasImages o events first.start first.log later.log (n + 1)
unfolding CutsEvent
call_images o events n k first now later e p q follows g is cuts same = elim (cuts o s g.at) [ inl none ↦ inl (kept none.0) | inr made ↦ inr (more made) ]
  where
    s : State MachineState
    s = after o (take n events)

    kept : later.log ≡ now.log → HasImages o events first.start first.log later.log n
    kept f = subst (λ (log : List Change). HasImages o events first.start first.log log n) (sym f) g.images

    start : first.start ≡ later.start
    start = sym (same ∙ g.start)

    more : HasGrown now.log later.log (event_writes s (event_of e)) × Decodes o (words_in later) (event_step (world_from o) s (event_of e)).0 → HasImages o events first.start first.log later.log (n + 1)
    more made =
        let next = one_more (world_from o) (first_state o) events n (event_of e) is in
        follows o events first.start first.log now.log later.log n (event_of e) g.images is made.0
        (subst (λ (xs : List ℕ). Decodes o (words_of later.log xs) (after o (take (n + 1) events))) (sym start) (subst (Decodes o (words_in later)) (sym next.0) made.1))

pub call_done : (o : Origin) (events : List Event) (n : ℕ) (k : Kernel) (first now later : Store) (e : own.Event) (p q : Stream) → MoreLaw → Goes o events n k first now p q → slice_get events n ≡ Some (event_of e) → n < length events
    → CutsEvent k e (words_in now) now.log (words_in later) later.log → later.start ≡ now.start → HasDone o events first later
call_done o events n k first now later e p q follows g is less cuts same = elim (call_images o events n k first now later e p q follows g is cuts same) [ inl i ↦ (n, omega (arith, less), i) | inr i ↦ (n + 1, omega (arith, less), i) ]

pub call_stops : (o : Origin) (events : List Event) (n : ℕ) (k : Kernel) (first now later : Store) (e : own.Event) (p q : Stream) → MoreLaw → Goes o events n k first now p q → slice_get events n ≡ Some (event_of e) → n < length events
    → CutsEvent k e (words_in now) now.log (words_in later) later.log → later.start ≡ now.start → Stops o events first later p q halt.DeviceLost
call_stops o events n k first now later e p q follows g is less cuts same = record {
  lines = n;
  middle = q;
  put = g.puts;
  stands = inl (less, (refl, call_images o events n k first now later e p q follows g is cuts same));
}

-- behind the last event
pub end_stops : (o : Origin) (events : List Event) (k : Kernel) (first now later : Store) (l m : ℕ) (p q r : Stream) (h : Halt) → Goes o events (length events) k first now p q → later.log ≡ now.log → IsHalted (tail_text o (after o (take (length events) events))) l m q r h → Stops o events first later p r h
end_stops o events k first now later l m p q r h g same halted = record {
  lines = length events;
  middle = q;
  put = g.puts;
  stands = inr (refl, subst (λ (log : List Change). HasImages o events first.start first.log log (length events)) (sym same) g.images, at h (subst (λ (x : List Event). IsHalted (tail_text o (after o x)) l m q r h) (take_all (length events) events (omega arith)) halted));
}
  where
    at : (h : Halt) → IsHalted (tail_text o (after o events)) l m q r h → StopsAfter o events q r h
    at halt.WriteFault i = i
    at halt.DeviceLost i = i.1

-- ---- conditions of a turn

turns_one : (left : ℕ) → turn_boots left ≤ 1
turns_one zero = omega arith
turns_one (suc zero) = omega arith
turns_one (suc (suc left)) = omega arith

boots_one_at : (n : ℕ) (p : Power) → boots_at n p ≤ 1
boots_one_at n On = omega arith
boots_one_at n (Boot left) = elim (nat_eq n 0) as (λ b. cond b (turn_boots left) 0 ≤ 1) [ true ↦ turns_one left | false ↦ omega arith ]

boots_one : (s : State MachineState) (e : Event) → boots_by s e ≤ 1
boots_one s Fail = omega arith
boots_one s (CoreStep n) = boots_one_at n s.power

-- each event counts one boot at most
boots_few : (o : Origin) (events : List Event) (s : State MachineState) → (state_after (world_from o) s events).boots ≤ s.boots + length events
boots_few o [] s = omega arith
boots_few o (e ∷ events) s =
    let rest = boots_few o events (event_step (world_from o) s e).0 in
    let step = boots_step (world_from o) s e in
    let one = boots_one s e in
    omega (arith, rest, step, one)

abbrev pub BootsLaw : Type 0
BootsLaw = (o : Origin) (k : Kernel) (words : Words) (s : State MachineState) → IsAt o k words s → words 2 ≡ s.boots

pub boots_below : (o : Origin) (events : List Event) (n : ℕ) (k : Kernel) (first now : Store) (p q : Stream) → BootsLaw → Begins o events k first → n < length events → (j : Kernel) → Goes o events n j first now p q → words_in now 2 < 4294967295
boots_below o events n k first now p q law b less j g =
    let same = law o j (words_in now) (after o (take n events)) g.at in
    let few = boots_few o (take n events) (first_state o) in
    let count = length-take-le n events (omega (arith, less)) in
    let most = b.boots in
    omega (arith, same, few, count, most, less)

-- fewer finishes are listed than events were taken
pub listed_below : (o : Origin) (events : List Event) (n : ℕ) (k : Kernel) (first now : Store) (p q : Stream) → n < length events → Goes o events n k first now p q → length k.listing.items < k.room
listed_below o events n k first now p q less g =
    let few = history-bound (world_from o) (take n events) (first_state o) in
    let count = length-take-le n events (omega (arith, less)) in
    let room = g.room in
    let same = sym (length-map k.listing.items entry_of) ∙ ap length (listed_at o k (words_in now) (after o (take n events)) g.at) ∙ length-listing (after o (take n events)).history in
    omega (arith, few, count, room, same, less)

-- the line of a turn names an object of the set
by_line : (set : TaskSet) (l : Line) → ((core task object : ℕ) → l ≡ RefuseSlots core task object → object < length set.objects) → NamesObject set l
by_line set Nothing h = tt
by_line set (Start core task at) h = tt
by_line set (Stale core task lo hi) h = tt
by_line set (RefuseEmpty core task lo hi) h = tt
by_line set (RefuseSlots core task object) h = h core task object refl
by_line set (RefuseRecords core task pending spawns) h = tt
by_line set (Finish e) h = tt
by_line set (Found e) h = tt
by_line set Failed h = tt
by_line set (Booted found boots) h = tt

abbrev pub RefusedLaw : Type 0
RefusedLaw = (o : Origin) (k : Kernel) (words : Words) (s : State MachineState) → IsAt o k words s → (e : Event) (core task object : ℕ) → (event_step (world_from o) s e).1 ≡ RefuseSlots core task object → object < length o.device.set.objects

pub line_named : (o : Origin) (s : State MachineState) (k j : Kernel) (words later : Words) (log grown : List Change) (e : own.Event) (l : base.Line) (at : TaskSet) → RefusedLaw → IsAt o k words s → SimulatesEvent k e words log j later grown l → at ≡ o.device.set → NamesObject at (line_of l)
unfolding SimulatesEvent
line_named o s k j words later log grown e l at law a turns same =
    subst (λ (set : TaskSet). NamesObject set (line_of l)) (sym same)
    (by_line o.device.set (line_of l) (λ core task object f. law o k words s a (event_of e) core task object (sym (turns o s a).tells ∙ f)))

-- the set of a kernel at a state is that of the run
pub set_at : (o : Origin) (k : Kernel) (words : Words) (s : State MachineState) → IsAt o k words s → k.set ≡ o.device.set
set_at o k words s a = ap (λ (d : Device). d.set) a.device

-- the line of a finish that no line has told
pub one_found : (set at : TaskSet) (entry : base_entry.Entry) (untold : Option Entry) → at ≡ set → entry_if (Some entry) ≡ untold → line_text at (line_of (own_line.Found entry)) ≡ lines_text set (found_lines untold)
one_found set at entry untold same e =
    ap (λ (x : TaskSet). line_text x (line_of (own_line.Found entry))) same ∙ sym (append-nil (line_text set (line_of (own_line.Found entry)))) ∙ ap (λ (x : Option Entry). lines_text set (found_lines x)) e
