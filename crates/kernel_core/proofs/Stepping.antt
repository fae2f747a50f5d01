-- One event: the arms of a core's step and a failure, as the tables have them.
use Rattle.std.proofs.Common.{◌≡◌, ◌⊎◌, inl, inr, ⊎_elim, Bool, true, ◌+◌, ◌≤◌, ◌<◌, ℕ, List, [], ◌++◌, length, set, get_or, is_some, false, Some, None, Result, Ok, Err, OnErr, OnOk, refl, sym, ap, ◌∙◌, subst, arith}
use Rattle.std.proofs.lemmas.List.{append-nil, length-map}
use Rattle.rv_core.specs.State.{MachineState}
use Rattle.nv_base.specs.declared.lines.Line.{Line}
use Rattle.nv_base.specs.declared.ids.CoreId.{CoreId}
use Rattle.nv_base.specs.declared.ids.ObjId.{ObjId}
use Rattle.kernel_model.specs.Intervals.{Interval}
use Rattle.kernel_model.specs.Events.{CoreStep, event_step}
use Rattle.kernel_model.proofs.ForCallers.{history-step}
use Rattle.kernel_model.proofs.Reruns.{length-listing}
use Rattle.set_model.specs.Views.{entry_of}
use Rattle.power_trace.specs.declared.event.Event.TheVariants as event
use Rattle.device_model.specs.Words.{Change, Words, made}
use Rattle.table_machine.specs.Tables.{Seat, Vacant, Runs, Copies, Waits, Saves, Setting, Tables, world_in}
use Rattle.table_machine.specs.Seats.{SeatTurn, saves}
use Rattle.table_machine.specs.Events.{Answer, joined, written_by}
use Rattle.table_machine.proofs.EachImage.{tables_tell}
use Rattle.shadow_index.specs.States.{index_of}
use Rattle.recovery.specs.declared.boot.Boot.{Boot}
use Rattle.interval.specs.Ranges.{range_of}
use Rattle.vol_copy.specs.Doings.{doing_in}
use Rattle.vol_copy.specs.Tries.{IsSeatAt}
use Rattle.vol_copy.specs.declared.attempt.Attempt.{Attempt}
use Rattle.vol_copy.specs.declared.attempt.Stage.{Stage}
use Rattle.vol_copy.specs.declared.attempt.Stage.TheVariants.{Blank, Running, Fetching, Copying, Ready}
use Rattle.vol_copy.specs.declared.doing.Doing.TheVariants.{Fetches}
use Rattle.core_seats.specs.declared.seat.Seat as own
use Rattle.core_seats.specs.declared.seat.Saving.{Saving}
use Rattle.core_seats.proofs.Beside.{saves_same}
use Rattle.kernel_core.specs.Commits.{setting_on}
use Rattle.kernel_core.specs.Keeping.{IsLawful, Keeps}
use Rattle.kernel_core.specs.Failures.{Fails}
use Rattle.kernel_core.specs.Steps.{HasImage, HasWritten, KeepsSet, MayHaveWritten, Steps, step_of}
use Rattle.headline.specs.Images.{Decodes}
use Rattle.kernel_core.specs.Events.{CutsEvent, SimulatesEvent}
use Rattle.kernel_core.specs.Turns.{CoreTurns, CoreWrites, IsAnswered, IsAtStage, IsSavingAt, SeatTurns, TurnsOn, held_at, turn_at}
use Rattle.kernel_core.specs.declared.kernel.Kernel.{Kernel}
use Rattle.kernel_core.specs.declared.kernel.Power.{Power}
use Rattle.kernel_core.specs.declared.kernel.Power.TheVariants as power
use Rattle.kernel_core.proofs.AtStage.{on, stands_at}
use Rattle.kernel_core.proofs.Lawful.{at_decodes, cut_at, event_at, lawful_at}
use Rattle.kernel_core.proofs.MayJoin.{whole_held}
use Rattle.kernel_core.proofs.Represented.{simulated, step_is}
use Rattle.kernel_core.proofs.Turned.{seat_at}
use Rattle.kernel_core.proofs.Writing.{on_saving}

-- ---- a core of which no finish commits writes nothing

abbrev answer_of : Setting MachineState → Tables MachineState → ℕ → SeatTurn MachineState → Seat MachineState → Answer MachineState
answer_of x t n turn c =
    let u = joined x c t in
    record { tables = record u { seats = set u.seats n turn.seat }; writes = written_by x t c; line = turn.line }

abbrev silent : Tables MachineState → ℕ → SeatTurn MachineState → Answer MachineState
silent t n turn = record { tables = record t { seats = set t.seats n turn.seat }; writes = []; line = turn.line }

no_save : (x : Setting MachineState) (t : Tables MachineState) (n : ℕ) (turn : SeatTurn MachineState) (c : Seat MachineState) → saves c ≡ false → answer_of x t n turn c ≡ silent t n turn
no_save x t n turn Vacant e = refl
no_save x t n turn (Runs a) e = refl
no_save x t n turn (Copies a slot) e = refl
no_save x t n turn (Waits a o) e = refl
no_save x t n turn (Saves i after left) e = absurd (cc e)

tried : (k : Kernel) (words : Words) (t : Tables MachineState) (n : ℕ) (P : Stage → Type 0) → Keeps k words t → IsAtStage k n P → step_of k words t n ≡ silent t n (turn_at k words t n)
tried k words t n P h g =
    let after = index_of k.committed.after in
    step_is k words t n (on k words t h g.power).power
    ∙ no_save (setting_on k.set words) t n (turn_at k words t n) (held_at t n)
    (saves_same g.seat after (held_at t n) (seat_at k.seats.items after t.seats n g.seat h.seats g.inside g.seat_is) ∙ ap is_some g.trying)

pub try_steps : (old new : Kernel) (words : Words) (n : ℕ) (P : Stage → Type 0) (line : Line) → IsAtStage old n P → TurnsOn words old n new line → Steps old n words new words line
unfolding TurnsOn Steps
try_steps old new words n P line g turns = λ t h l.
    let r = turns t h l in
    subst (λ (a : Answer MachineState). IsAnswered new words a line) (sym (tried old words t n P h g)) (record { keeps = r.keeps; tells = r.tells })

pub try_writes : (old : Kernel) (words : Words) (n : ℕ) (P : Stage → Type 0) (log : List Change) → IsAtStage old n P → HasWritten old n words log log
unfolding HasWritten
try_writes old words n P log g = λ t h l. subst (λ (a : Answer MachineState). log ≡ log ++ a.writes) (sym (tried old words t n P h g)) (sym (append-nil log))

pub try_image : (old : Kernel) (words : Words) (n : ℕ) (P : Stage → Type 0) → IsAtStage old n P → HasImage old n words words
unfolding HasImage
try_image old words n P g = λ t h l. subst (λ (a : Answer MachineState). words ≡ made a.writes words) (sym (tried old words t n P h g)) refl

pub try_cut : (old : Kernel) (words later : Words) (n : ℕ) (log : List Change) → MayHaveWritten old n words later log log
unfolding MayHaveWritten
try_cut old words later n log = λ t h l. inl refl

pub on_words : (old new : Kernel) (n : ℕ) (line : Line) → SeatTurns old n new line → (words : Words) → TurnsOn words old n new line
unfolding SeatTurns TurnsOn
on_words old new n line turns words = turns words

-- it waits for no version: the same step chooses one
fetches_none : (a : Attempt) (i : Interval) (object : ObjId) (stage : Stage) (seat : Seat MachineState) → Fetches object ≡ doing_in stage → IsSeatAt a i stage seat → ⊥
fetches_none a i object Blank seat e h = cc e
fetches_none a i object Running seat e h = cc e
fetches_none a i object (Fetching o want) seat e h = h
fetches_none a i object (Copying o want copied) seat e h = cc e
fetches_none a i object (Ready outcome) seat e h = cc e

pub never_fetches : (k : Kernel) (words : Words) (t : Tables MachineState) (n : ℕ) (s : own.Seat) (object : ObjId) → Keeps k words t → (g : IsAtStage k n (λ s. Unit {0})) → s ≡ g.seat → Fetches object ≡ doing_in s.attempt.stage → ⊥
never_fetches k words t n s object h g same e =
    fetches_none g.seat.attempt (range_of g.seat.reads) object g.seat.attempt.stage (held_at t n) (e ∙ ap (λ (x : own.Seat). doing_in x.attempt.stage) same) (stands_at k words t n (λ s. Unit {0}) h g).0

-- ---- which of the two a core is

pub power_on : (p : Power) → ((b : Boot) → p ≡ power.Boot b → ⊥) → p ≡ power.On
power_on power.On off = refl
power_on (power.Boot b) off = absurd (off b refl)

pub try_at : (k : Kernel) (n at : ℕ) (s : own.Seat) → ((b : Boot) → k.power ≡ power.Boot b → ⊥) → n < k.set.cores → length k.seats.items ≡ k.set.cores → at ≡ n → s ≡ get_or k.seats.items at s → s.saving ≡ None → IsAtStage k n (λ s. Unit {0})
try_at k n at s off inside cores e is trying = record { power = power_on k.power off; inside = omega (arith, inside, cores); seat = s; seat_is = subst (λ (m : ℕ). s ≡ get_or k.seats.items m s) e is; trying = trying; stage = tt }

pub saving_at : (k : Kernel) (n at : ℕ) (s : own.Seat) (v : Saving) (whole : Bool) → ((b : Boot) → k.power ≡ power.Boot b → ⊥) → n < k.set.cores → length k.seats.items ≡ k.set.cores → at ≡ n → s ≡ get_or k.seats.items at s → s.saving ≡ Some v → v.is_whole ≡ whole → IsSavingAt k n whole
saving_at k n at s v whole off inside cores e is saving w = record { power = power_on k.power off; inside = omega (arith, inside, cores); seat = s; seat_is = subst (λ (m : ℕ). s ≡ get_or k.seats.items m s) e is; saving = v; saving_is = saving; whole = w }

-- ---- a core of which a finish commits

pub saving_steps : (old new : Kernel) (words later : Words) (n : ℕ) (whole : Bool) (line : Line) → IsSavingAt old n whole → CoreTurns old n new words later line → Steps old n words new later line
unfolding CoreTurns Steps
saving_steps old new words later n whole line g turns = λ t h l.
    subst (λ (a : Answer MachineState). IsAnswered new later a line) (sym (step_is old words t n (on_saving old words t n whole h g).power)) (turns t h l)

pub saving_writes : (old : Kernel) (words later : Words) (n : ℕ) (whole : Bool) (log grown : List Change) → IsSavingAt old n whole → CoreWrites old n words later log grown → HasWritten old n words log grown
unfolding CoreWrites HasWritten
saving_writes old words later n whole log grown g writes = λ t h l.
    subst (λ (a : Answer MachineState). grown ≡ log ++ a.writes) (sym (step_is old words t n (on_saving old words t n whole h g).power)) (writes t h l).logged

pub saving_image : (old : Kernel) (words later : Words) (n : ℕ) (whole : Bool) (log grown : List Change) → IsSavingAt old n whole → CoreWrites old n words later log grown → HasImage old n words later
unfolding CoreWrites HasImage
saving_image old words later n whole log grown g writes = λ t h l.
    subst (λ (a : Answer MachineState). later ≡ made a.writes words) (sym (step_is old words t n (on_saving old words t n whole h g).power)) (writes t h l).words_are

pub saving_cut : (old : Kernel) (words later : Words) (n : ℕ) (whole : Bool) (log grown : List Change) → IsSavingAt old n whole → (grown ≡ log) ⊎ CoreWrites old n words later log grown → MayHaveWritten old n words later log grown
unfolding MayHaveWritten HasWritten HasImage
saving_cut old words later n whole log grown g either = λ t h l.
    ⊎_elim inl
    (λ writes. inr (record { logged = saving_writes old words later n whole log grown g writes t h l; words_are = saving_image old words later n whole log grown g writes t h l }))
    either

-- a finish that joins writes nothing
join_silent : (k : Kernel) (words : Words) (t : Tables MachineState) (n : ℕ) → Keeps k words t → IsSavingAt k n true → (step_of k words t n).writes ≡ []
join_silent k words t n h g =
    ap (λ (a : Answer MachineState). a.writes) (step_is k words t n (on_saving k words t n true h g).power)
    ∙ ap (written_by (setting_on k.set words) t) (whole_held k words t n h g)

pub join_writes : (old : Kernel) (words : Words) (n : ℕ) (log : List Change) → IsSavingAt old n true → HasWritten old n words log log
unfolding HasWritten
join_writes old words n log g = λ t h l. sym (ap (λ (writes : List Change). log ++ writes) (join_silent old words t n h g) ∙ append-nil log)

pub join_image : (old : Kernel) (words : Words) (n : ℕ) → IsSavingAt old n true → HasImage old n words words
unfolding HasImage
join_image old words n g = λ t h l. sym (ap (λ (writes : List Change). made writes words) (join_silent old words t n h g))

-- ---- the whole event

-- at most one finish is listed more
listed_more : (old new : Kernel) (words later : Words) (t : Tables MachineState) (n : ℕ) (line : Line) → Keeps old words t → (l : IsLawful old words t) → IsAnswered new later (step_of old words t n) line → length new.listing.items ≤ length old.listing.items + 1
listed_more old new words later t n line h l a =
    let x = setting_on old.set words in
    let next = (event_step (world_in x l.base) l.state (CoreStep n)).0 in
    let stands = (simulated old words t (CoreStep n) h.limits l).state in
    let after = made (step_of old words t n).writes words in
    let m = sym (length-listing next.history) ∙ ap length (sym (tables_tell x l.base l.last (step_of old words t n).tables after next stands).2) ∙ ap length a.keeps.entries ∙ length-map new.listing.items entry_of in
    let o = sym (length-listing l.state.history) ∙ ap length (sym (tables_tell x l.base l.last t words l.state l.represented).2) ∙ ap length h.entries ∙ length-map old.listing.items entry_of in
    let few = history-step (world_in x l.base) l.state (CoreStep n) in
    omega (arith, m, o, few)

pub core_turns : (old new : Kernel) (core : CoreId) (words later : Words) (log grown : List Change) (line : Line) → KeepsSet old new → length old.listing.items < old.room
    → Steps old core.0 words new later line → HasWritten old core.0 words log grown → HasImage old core.0 words later → SimulatesEvent old (event.Core core) words log new later grown line
unfolding Steps HasWritten HasImage SimulatesEvent
core_turns old new core words later log grown line same few steps writes image = λ o s at.
    let t = at.tables in
    let l = lawful_at o old words s at in
    let a = steps t at.keeps l in
    let more = listed_more old new words later t core.0 line at.keeps l a in
    let room = same.room in
    event_at o old new words later s (event.Core core) log grown line at same a.keeps (omega (arith, more, few, room)) a.tells (record { logged = writes t at.keeps l; words_are = image t at.keeps l })

pub core_cut : (old : Kernel) (core : CoreId) (words later : Words) (log grown : List Change) → (grown ≡ log → later ≡ words) → MayHaveWritten old core.0 words later log grown → CutsEvent old (event.Core core) words log later grown
unfolding MayHaveWritten CutsEvent
core_cut old core words later log grown still either = λ o s at.
    let l = lawful_at o old words s at in
    ⊎_elim
    (λ e. inl (e, subst (λ (w : Words). Decodes o w s) (sym (still e)) (at_decodes o old words s at)))
    (λ made. inr (cut_at o old words later s (event.Core core) log grown at made))
    (either at.tables at.keeps l)

pub fail_turns : (old new : Kernel) (words : Words) (log : List Change) (line : Line) → KeepsSet old new → length new.listing.items ≤ new.room → Fails old new line → SimulatesEvent old event.Fail words log new words log line
unfolding Fails SimulatesEvent
fail_turns old new words log line same few fails = λ o s at.
    let a = fails words at.tables at.keeps (lawful_at o old words s at) in
    event_at o old new words words s event.Fail log log line at same a.keeps few a.tells (record { logged = sym (append-nil log); words_are = refl })

-- ---- what holds at every answer holds at one

pub on_ok_here : {T E P : Type 0} (r : Result T E) → P → OnOk r P
on_ok_here (Ok x) p = p
on_ok_here (Err e) p = tt

pub on_err_here : {T E P : Type 0} (r : Result T E) → P → OnErr r P
on_err_here (Ok x) p = tt
on_err_here (Err e) p = p
