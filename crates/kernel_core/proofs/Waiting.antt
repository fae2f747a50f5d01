-- A try that waits for a verdict: it waits on while another finish commits, or it is given up.
use Rattle.std.proofs.Common.{◌≡◌, ℕ, zero, suc, ◌<◌, Bool, true, false, cond, List, [], ◌∷◌, get_or, length, refl, sym, ap, ◌∙◌, subst, arith}
use Rattle.std.specs.List.{list_any}
use Rattle.rv_core.specs.State.{MachineState}
use Rattle.nv_base.specs.declared.ids.CoreId.{CoreId}
use Rattle.nv_base.specs.declared.ids.ObjId.{ObjId}
use Rattle.nv_base.specs.declared.ids.Point.{Point}
use Rattle.nv_base.specs.declared.ids.TaskId.{TaskId}
use Rattle.nv_base.specs.declared.lines.Line.{Line}
use Rattle.nv_base.specs.declared.lines.Line.TheVariants as line
use Rattle.nv_base.specs.declared.lines.Outcome as base
use Rattle.kernel_model.specs.Cores.{all_but}
use Rattle.kernel_model.specs.Effects.{Outcome}
use Rattle.set_model.specs.Views.{line_of, outcome_of}
use Rattle.device_model.specs.Words.{Words}
use Rattle.device_model.specs.IndexWords.{Index}
use Rattle.interval.specs.Ranges.{range_of}
use Rattle.shadow_index.specs.States.{index_of}
use Rattle.table_machine.specs.Tables.{Seat, Try, Vacant, Waits, Tables}
use Rattle.table_machine.specs.Seats.{SeatTurn, answered, saves, seat_turn, still}
use Rattle.kernel_model.specs.Turns.{RefuseEmpty, RefuseRecords, RefuseSlots}
use Rattle.validate.specs.declared.verdict.Verdict.TheVariants as answer
use Rattle.vol_copy.specs.Stages.{is_waiting}
use Rattle.vol_copy.specs.Tries.{IsEndedTry, IsFor, IsSeatAt}
use Rattle.vol_copy.specs.declared.attempt.Stage.{Stage}
use Rattle.vol_copy.specs.declared.attempt.Stage.TheVariants as stage
use Rattle.core_seats.specs.declared.seat.Seat as own
use Rattle.core_seats.specs.Holding.{StandsFor}
use Rattle.core_seats.specs.Others.{saves_in}
use Rattle.core_seats.proofs.Beside.{any_but, saves_all}
use Rattle.kernel_core.specs.Commits.{setting_on}
use Rattle.kernel_core.specs.Deciding.{GivesUp, IsVerdictOn, verdict_at}
use Rattle.kernel_core.specs.Keeping.{Keeps}
use Rattle.kernel_core.specs.Turns.{HasTurned, IsAtStage, SeatTurns, held_at, turn_at}
use Rattle.kernel_core.specs.declared.kernel.Kernel.{Kernel}
use Rattle.kernel_core.proofs.Turned.{seated, turned}
use Rattle.kernel_core.proofs.AtStage.{kept_at, nothing_done, stands_at}

-- a core whose try has ended, so that it waits for a verdict
abbrev pub IsReady : Kernel → ℕ → Type 0
IsReady k n = IsAtStage k n (λ s. is_waiting s ≡ true)

-- the try, and how it has ended
pub record HasEnded (s : own.Seat) (seat : Seat MachineState) : Type 0 where
  pub outcome : base.Outcome
  pub of : Try MachineState
  pub ready : s.attempt.stage ≡ stage.Ready outcome
  pub ended : IsEndedTry s.attempt outcome of
  pub reads : of.interval ≡ range_of s.reads
  pub held : seat ≡ Waits of (outcome_of outcome)

pub ended_at : (k : Kernel) (words : Words) (t : Tables MachineState) (n : ℕ) → Keeps k words t → (g : IsReady k n) → HasEnded g.seat (held_at t n)
ended_at k words t n h g = at g.seat.attempt.stage refl g.stage (stands_at k words t n _ h g).0
  where
    at : (s : Stage) → g.seat.attempt.stage ≡ s → is_waiting s ≡ true → IsSeatAt g.seat.attempt (range_of g.seat.reads) s (held_at t n) → HasEnded g.seat (held_at t n)
    at stage.Blank e w i = absurd (cc w)
    at stage.Running e w i = absurd (cc w)
    at (stage.Fetching o want) e w i = absurd (cc w)
    at (stage.Copying o want copied) e w i = absurd (cc w)
    at (stage.Ready o) e w i = record { outcome = o; of = i.0; ready = e; ended = i.1; reads = i.2; held = i.3 }

-- a seat that waits holds one try, and one outcome
pub same_try : (a b : Try MachineState) (o p : Outcome) (seat : Seat MachineState) → seat ≡ Waits a o → seat ≡ Waits b p → (a ≡ b) × (o ≡ p)
same_try a b o p seat e f = let q : Waits a o ≡ Waits b p = sym e ∙ f in (cc q, cc q)

-- whether another finish commits
pub others_save : (k : Kernel) (words : Words) (t : Tables MachineState) (n : ℕ) → Keeps k words t → IsReady k n → list_any saves (all_but n t.seats) ≡ saves_in k.seats.items
others_save k words t n h g = any_but saves t.seats n Vacant (ap saves (ended_at k words t n h g).held) ∙ saves_all k.seats.items (index_of k.committed.after) t.seats h.seats

-- the turn, by whether another finish commits
pub waits_turn : (k : Kernel) (words : Words) (t : Tables MachineState) (n : ℕ) (a : Try MachineState) (o : Outcome) (b : Bool) → held_at t n ≡ Waits a o → list_any saves (all_but n t.seats) ≡ b
    → turn_at k words t n ≡ cond b (still (Waits a o)) (answered (setting_on k.set words) t (all_but n t.seats) n a.task (verdict_at k words t n a o))
waits_turn k words t n a o b e f =
    ap (seat_turn (setting_on k.set words) t words (all_but n t.seats) n) e
    ∙ ap (λ (c : Bool). cond c (still (Waits a o)) (answered (setting_on k.set words) t (all_but n t.seats) n a.task (verdict_at k words t n a o))) f

-- one commits: nothing happens
pub waits_on : (k : Kernel) (n : ℕ) → IsReady k n → saves_in k.seats.items ≡ true → SeatTurns k n k line.Nothing
unfolding SeatTurns
waits_on k n g saving = λ words t h lawful.
    let e = ended_at k words t n h g in
    let turn = waits_turn k words t n e.of (outcome_of e.outcome) true e.held (others_save k words t n h g ∙ saving) in
    subst (λ (u : SeatTurn MachineState). HasTurned k words t n u line.Nothing) (sym turn) (nothing_done k words t n _ line.Nothing h g.inside (sym e.held) refl)

-- an item of a list, whatever stands for none
pub same_item : {A : Type 0} → (xs : List A) (n : ℕ) (x y : A) → n < length xs → x ≡ get_or xs n x → y ≡ get_or xs n y → x ≡ y
same_item [] n x y l e f = absurd (omega (arith, l))
same_item (z ∷ xs) zero x y l e f = e ∙ sym f
same_item (z ∷ xs) (suc n) x y l e f = same_item xs n x y (omega (arith, l)) e f

-- the core gives its task up
pub gives_up : (k : Kernel) (n : ℕ) (s new : own.Seat) (task : ℕ) → (g : IsReady k n) → s ≡ get_or k.seats.items n s → (IsFor k.set s.attempt → IsFor k.set new.attempt) → ((after : Index) → StandsFor new after Vacant) → task ≡ s.attempt.task.0 → GivesUp k n (seated k n new) task
unfolding GivesUp
gives_up k n s new task g at kept stands is = λ words t h.
    let same : s ≡ g.seat = same_item k.seats.items n s g.seat g.inside at g.seat_is in (
      turned k words t n new Vacant h g.power (kept (subst (λ (x : own.Seat). IsFor k.set x.attempt) (sym same) (kept_at k words t n _ h g))) (stands (index_of k.committed.after)) (λ i after left e. cc e),
      λ a o e.
          let end = ended_at k words t n h g in
          ap (λ (x : Try MachineState). x.task) (same_try a end.of o (outcome_of end.outcome) (held_at t n) e end.held).0
          ∙ end.ended.task ∙ ap (λ (x : own.Seat). x.attempt.task.0) (sym same) ∙ sym is,
    )

-- and tells why
pub refuses : (k new : Kernel) (n task : ℕ) (line : Line) → IsReady k n → saves_in k.seats.items ≡ false → GivesUp k n new task
    → ((words : Words) (t : Tables MachineState) → Keeps k words t → (a : Try MachineState) (o : Outcome) → held_at t n ≡ Waits a o → a.task ≡ task
    → answered (setting_on k.set words) t (all_but n t.seats) n a.task (verdict_at k words t n a o) ≡ record { seat = Vacant; line = line_of line })
    → SeatTurns k n new line
unfolding SeatTurns GivesUp
refuses k new n task line g alone gives tells = λ words t h lawful.
    let e = ended_at k words t n h g in
    let given = gives words t h in
    let o = outcome_of e.outcome in
    let turn = waits_turn k words t n e.of o false e.held (others_save k words t n h g ∙ alone) ∙ tells words t h e.of o e.held (given.1 e.of o e.held) in
    subst (λ (u : SeatTurn MachineState). HasTurned new words t n u line) (sym turn) (record { keeps = given.0; tells = refl })

pub refuses_empty : (k new : Kernel) (core : CoreId) (task : TaskId) (lo hi : Point) → IsReady k core.0 → saves_in k.seats.items ≡ false → GivesUp k core.0 new task.0 → IsVerdictOn k core.0 (answer.Empty lo hi) → SeatTurns k core.0 new (line.RefuseEmpty core task lo hi)
unfolding IsVerdictOn
refuses_empty k new core task lo hi g alone gives v = refuses k new core.0 task.0 (line.RefuseEmpty core task lo hi) g alone gives (λ words t h a o e same.
    ap (answered (setting_on k.set words) t (all_but core.0 t.seats) core.0 a.task) (v words t h a o e)
    ∙ ap (λ (id : ℕ). let u : SeatTurn MachineState = record { seat = Vacant; line = RefuseEmpty core.0 id lo.0 hi.0 } in u) same)

pub refuses_slots : (k new : Kernel) (core : CoreId) (task : TaskId) (object : ObjId) → IsReady k core.0 → saves_in k.seats.items ≡ false → GivesUp k core.0 new task.0 → IsVerdictOn k core.0 (answer.Slots object) → SeatTurns k core.0 new (line.RefuseSlots core task object)
unfolding IsVerdictOn
refuses_slots k new core task object g alone gives v = refuses k new core.0 task.0 (line.RefuseSlots core task object) g alone gives (λ words t h a o e same.
    ap (answered (setting_on k.set words) t (all_but core.0 t.seats) core.0 a.task) (v words t h a o e)
    ∙ ap (λ (id : ℕ). let u : SeatTurn MachineState = record { seat = Vacant; line = RefuseSlots core.0 id object.0 } in u) same)

pub refuses_records : (k new : Kernel) (core : CoreId) (task : TaskId) (pending spawns : ℕ) → IsReady k core.0 → saves_in k.seats.items ≡ false → GivesUp k core.0 new task.0 → IsVerdictOn k core.0 (answer.Records pending spawns) → SeatTurns k core.0 new (line.RefuseRecords core task pending spawns)
unfolding IsVerdictOn
refuses_records k new core task pending spawns g alone gives v = refuses k new core.0 task.0 (line.RefuseRecords core task pending spawns) g alone gives (λ words t h a o e same.
    ap (answered (setting_on k.set words) t (all_but core.0 t.seats) core.0 a.task) (v words t h a o e)
    ∙ ap (λ (id : ℕ). let u : SeatTurn MachineState = record { seat = Vacant; line = RefuseRecords core.0 id pending spawns } in u) same)
